-- What each call leaves of a planner that a history explains.
use Rattle.std.proofs.Common.{◌≡◌, ℕ, ◌+◌, ◌-◌, Bool, true, false, not, ◌&&◌, ◌||◌, eqb, ◌∷◌, Ok, Err, MatchBool, Result, sym, refl, ap, ◌∙◌, subst, inl, inr, MatchResult}
use mathlib.Core.Path.{fun_ext}
use Rattle.std.proofs.lemmas.Bool.{false≢true}
use Rattle.graph.specs.declared.Source.{Ghosts}
use Rattle.graph.specs.declared.refusal.Refusal.{Refusal}
use Rattle.graph.specs.declared.refusal.Refusal.TheVariants.{TooDense}
use Rattle.graph.specs.Graph.{Graph, vertices}
use Rattle.graph.specs.Hiding.{without, marked, hide_answer, show_answer}
use Rattle.order.specs.Order.{Dense}
use Rattle.calls.specs.declared.standing.Standing.{Standing}
use Rattle.calls.specs.declared.standing.Standing.TheVariants.{Loose, Ordered, Climbed, Pulled, Won, Closed}
use Rattle.calls.specs.declared.standing.Operation.TheVariants as operation
use Rattle.calls.specs.declared.call.Call.{Call}
use Rattle.calls.specs.declared.call.Call.TheVariants.{Hide, Show, Order, Climb}
use Rattle.calls.specs.declared.call.Reply.{Reply}
use Rattle.calls.specs.declared.call.Reply.TheVariants.{Done, Refused}
use Rattle.calls.specs.Table.{takes, operation, turned_away}
use Rattle.calls.specs.Points.{History, event, graph_at, point_at, climbed_to}
use Rattle.calls.specs.Fair.{Answers, Fair, SparseEnough, remaining, reply_of}
use Rattle.progress.specs.Holds.{Holds}
use Rattle.planner.specs.declared.planner.Planner.{Planner}
use Rattle.progress.specs.declared.state.Progress.{Progress}
use Rattle.planner.specs.Explains.{Explains}

pub when_yes : (b : Bool) (P Q : Type 0) → b ≡ true → P → MatchBool b P Q
when_yes true P Q e p = p
when_yes false P Q e p = absurd (false≢true e)

pub when_no : (b : Bool) (P Q : Type 0) → b ≡ false → Q → MatchBool b P Q
when_no false P Q e q = q
when_no true P Q e q = absurd (false≢true (sym e))

-- only an ordered planner climbs
takes_climb : (s : Standing) → takes s operation.Climb ≡ true → s ≡ Ordered
takes_climb Loose e = absurd (false≢true e)
takes_climb Ordered e = refl
takes_climb Climbed e = absurd (false≢true e)
takes_climb Pulled e = absurd (false≢true e)
takes_climb Won e = absurd (false≢true e)
takes_climb Closed e = absurd (false≢true e)

module _ {S B : Type 0} {gs : Ghosts S} (graph : S → Graph) (g : Graph) (h : History) (p : Planner S B gs) (x : Explains graph g h p) where
  -- the graph of the layer is the graph of the point
  pub layer_graph : without (graph p.layer.below) (marked p.layer.hidden) ≡ graph_at g (point_at g h)
  layer_graph =
      ap (λ G. without G (marked p.layer.hidden)) x.below ∙ ap (without g) (fun_ext x.hidden)

  -- a call that the standing takes is fair where it answers as it has to
  pub fair_taken : (c : Call) (r : Reply) → takes p.progress.standing (operation c) ≡ true → Answers (graph_at g (point_at g h)) (point_at g h) c r → Fair g (point_at g h) c r
  fair_taken c r t a =
      when_yes (takes (point_at g h).standing (operation c)) _ _ (ap (λ s. takes s (operation c)) (sym x.holds.standing) ∙ t) a

  -- a call that the standing does not take
  pub fair_left : (c : Call) (r : Reply) → takes p.progress.standing (operation c) ≡ false → r ≡ Refused (turned_away (operation c)) → Fair g (point_at g h) c r
  fair_left c r t a =
      when_no (takes (point_at g h).standing (operation c)) _ _ (ap (λ s. takes s (operation c)) (sym x.holds.standing) ∙ t) a

  -- a refused call leaves all as it is
  pub stays : (c : Call) (e : Refusal) → Fair g (point_at g h) c (Refused e) → Explains graph g (event c (Refused e) ∷ h) p
  stays c e f = record { below = x.below; hidden = x.hidden; fair = (f, x.fair); holds = x.holds }

  -- hide and show
  module _ (q : Planner S B gs) (same : q.layer.below ≡ p.layer.below) (loose : Holds (without (graph q.layer.below) (marked q.layer.hidden)) Loose 0 0 q.progress) where
    holds_loose : (hidden : ℕ → Bool) → ((k : ℕ) → marked q.layer.hidden k ≡ hidden k) → Holds (without g hidden) Loose 0 0 q.progress
    holds_loose hidden m =
        let e = ap (λ G. without G (marked q.layer.hidden)) (ap graph same ∙ x.below) ∙ ap (without g) (fun_ext m) in
        subst (λ G. Holds G Loose 0 0 q.progress) e loose

    pub hides : (c : ℕ) → takes p.progress.standing operation.Hide ≡ true → Ok tt ≡ hide_answer (without (graph p.layer.below) (marked p.layer.hidden)) c → ((k : ℕ) → marked q.layer.hidden k ≡ (marked p.layer.hidden k || eqb k c)) → Fair g (point_at g h) (Hide c) Done × Explains graph g (event (Hide c) Done ∷ h) q
    hides c t a m =
        let f = fair_taken (Hide c) Done t (ap reply_of (a ∙ ap (λ G. hide_answer G c) layer_graph)) in
        let k = λ (k : ℕ). m k ∙ ap (λ b. b || eqb k c) (x.hidden k) in
        (f, record { below = ap graph same ∙ x.below; hidden = k; fair = (f, x.fair); holds = holds_loose _ k })

    pub shows : (c : ℕ) → takes p.progress.standing operation.Show ≡ true → Ok tt ≡ show_answer (graph p.layer.below) (marked p.layer.hidden) c → ((k : ℕ) → marked q.layer.hidden k ≡ (marked p.layer.hidden k && not (eqb k c))) → Fair g (point_at g h) (Show c) Done × Explains graph g (event (Show c) Done ∷ h) q
    shows c t a m =
        let f = fair_taken (Show c) Done t (ap reply_of (a ∙ ap (λ G. show_answer G (marked p.layer.hidden) c) x.below ∙ ap (λ hidden. show_answer g hidden c) (fun_ext x.hidden))) in
        let k = λ (k : ℕ). m k ∙ ap (λ b. b && not (eqb k c)) (x.hidden k) in
        (f, record { below = ap graph same ∙ x.below; hidden = k; fair = (f, x.fair); holds = holds_loose _ k })

  -- order
  pub orders : (r : Result (Unit {0}) Refusal) (q : Progress) → takes p.progress.standing operation.Order ≡ true → MatchResult r (λ _. Holds (without (graph p.layer.below) (marked p.layer.hidden)) (climbed_to (without (graph p.layer.below) (marked p.layer.hidden)) 0) 0 0 q × SparseEnough (without (graph p.layer.below) (marked p.layer.hidden))) (λ e. (e ≡ TooDense) × Dense (without (graph p.layer.below) (marked p.layer.hidden)) × (q ≡ p.progress)) → Fair g (point_at g h) Order (reply_of r) × Explains graph g (event Order (reply_of r) ∷ h) (record { layer = p.layer; bound = p.bound; progress = q })
  orders (Ok u) q t a =
      let b = subst (λ G. Holds G (climbed_to G 0) 0 0 q × SparseEnough G) layer_graph a in
      let f = fair_taken Order Done t (inr (refl, b.1)) in
      (f, record { below = x.below; hidden = x.hidden; fair = (f, x.fair); holds = b.0 })
  orders (Err e) q t a =
      let f = fair_taken Order (Refused e) t (inl (ap Refused a.0, subst Dense layer_graph a.1)) in
      (f, record { below = x.below; hidden = x.hidden; fair = (f, x.fair); holds = subst (Holds _ _ _ _) (sym a.2) x.holds })

  -- climb
  pub climbs : (r : Result ℕ Refusal) (q : Progress) → takes p.progress.standing operation.Climb ≡ true → ((climbs noes : ℕ) → Holds (without (graph p.layer.below) (marked p.layer.hidden)) Ordered climbs noes p.progress → (r ≡ Ok (vertices (without (graph p.layer.below) (marked p.layer.hidden)) - (climbs + 1))) × Holds (without (graph p.layer.below) (marked p.layer.hidden)) (climbed_to (without (graph p.layer.below) (marked p.layer.hidden)) (climbs + 1)) (climbs + 1) noes q) → Fair g (point_at g h) Climb (remaining r) × Explains graph g (event Climb (remaining r) ∷ h) (record { layer = p.layer; bound = p.bound; progress = q })
  climbs r q t a =
      let j = (point_at g h).climbs in
      let n = (point_at g h).noes in
      let s = sym x.holds.standing ∙ takes_climb p.progress.standing t in
      let y = subst (λ G. (climbs noes : ℕ) → Holds G Ordered climbs noes p.progress → (r ≡ Ok (vertices G - (climbs + 1))) × Holds G (climbed_to G (climbs + 1)) (climbs + 1) noes q) layer_graph a j n (subst (λ v. Holds (graph_at g (point_at g h)) v j n p.progress) s x.holds) in
      let f = fair_taken Climb (remaining r) t (ap remaining y.0) in
      let P : Result ℕ Refusal → Type 0 = λ r. Fair g (point_at g h) Climb (remaining r) → Explains graph g (event Climb (remaining r) ∷ h) (record { layer = p.layer; bound = p.bound; progress = q }) in
      (f, subst P (sym y.0) (λ f. record { below = x.below; hidden = x.hidden; fair = (f, x.fair); holds = y.1 }) f)
