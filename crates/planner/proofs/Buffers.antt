-- What block, plan and cap leave in lent buffers.
use Rattle.std.proofs.Common.{◌≡◌, ℕ, ◌<◌, ◌≤◌, true, false, List, length, take, drop, Ok, Err, MatchBool, Result, sym, refl, ap, ◌∙◌, subst, MatchResult}
use Rattle.std.proofs.Math.Seq.{take-length}
use Rattle.std.proofs.lemmas.Bool.{false≢true}
use Rattle.graph.specs.declared.Source.{Ghosts}
use Rattle.graph.specs.declared.refusal.Refusal.{Refusal}
use Rattle.graph.specs.declared.refusal.Refusal.TheVariants.{ShortBuffer}
use Rattle.graph.specs.Graph.{Graph, held}
use Rattle.graph.specs.Hiding.{without, marked}
use Rattle.graph.specs.declared.edge.Edge.{Edge}
use Rattle.caps.specs.Cap.{CappedIn, CapFits, CapRefused}
use Rattle.climbing.specs.Climbs.{LargestAmong, last}
use Rattle.calls.specs.declared.row.Row.{Row}
use Rattle.calls.specs.declared.standing.Standing.{Standing}
use Rattle.calls.specs.declared.standing.Standing.TheVariants.{Loose, Ordered, Climbed, Pulled, Won, Closed}
use Rattle.calls.specs.declared.standing.Operation.TheVariants as operation
use Rattle.calls.specs.Table.{takes, loose}
use Rattle.calls.specs.Points.{History, Point, graph_at, point_at}
use Rattle.calls.specs.Parts.{PlanAt}
use Rattle.calls.specs.Buffers.{BlockAnswer, BlockTold, PlanAnswer, PlanTold, rows}
use Rattle.progress.specs.declared.state.Progress.{Progress}
use Rattle.progress.specs.Holds.{Found, paint}
use Rattle.planner.specs.declared.planner.Planner.{Planner}
use Rattle.planner.specs.Explains.{Explains}
use Rattle.planner.proofs.Steps.{layer_graph, when_yes}

-- a planner that tells its block or its plan is not loose
found : (P Q : Type 0) (s : Standing) → takes s operation.Block ≡ true → MatchBool (loose s) P Q → Q
found P Q Loose e x = absurd (false≢true e)
found P Q Ordered e x = x
found P Q Climbed e x = x
found P Q Pulled e x = x
found P Q Won e x = x
found P Q Closed e x = x

-- every plan has drive 0 for what is not held
plan_others : (g : Graph) (s : Standing) (climbs k : ℕ) (col : ℕ → ℕ) → PlanAt g s climbs k col → (c : ℕ) → c < g.size → held g c ≡ false → col c ≡ 0
plan_others g Loose climbs k col x = absurd x
plan_others g Ordered climbs k col x = x.plan.others
plan_others g Climbed climbs k col x = x.plan.others
plan_others g Pulled climbs k col x = x.plan.others
plan_others g Won climbs k col x = x.plan.others
plan_others g Closed climbs k col x = x.others

module _ (g : Graph) (x : Point) (p : Progress) (y : Found g x.standing x.climbs x.noes p) where
  -- what the block's places answer
  block_cases : (before after : List ℕ) (r : Result ℕ Refusal) → MatchResult r (λ n. (n ≡ length p.block.items) × (n ≤ length after) × (take n after ≡ p.block.items) × (drop n after ≡ drop n before)) (λ e. (e ≡ ShortBuffer) × (length before < length p.block.items) × (after ≡ before)) → BlockAnswer g x before after r
  block_cases before after (Ok n) a = record {
    size = n;
    set = y.block.set;
    block = record { order = _; is_order = y.order; largest = subst (LargestAmong g (last p.order.items x.climbs) y.block.set) (sym a.0) y.block.largest };
    cases = (refl, a.1, a.2 ∙ sym (take-length p.block.items) ∙ y.block.front, a.3);
  }
  block_cases before after (Err e) a = record {
    size = length p.block.items;
    set = y.block.set;
    block = record { order = _; is_order = y.order; largest = y.block.largest };
    cases = a;
  }

  plan_cases : (before after : List Row) (r : Result (Unit {0}) Refusal) → MatchResult r (λ _. (g.size ≤ length after) × (take g.size after ≡ rows (paint p.drives) g.size) × (drop g.size after ≡ drop g.size before)) (λ e. (e ≡ ShortBuffer) × (length before < g.size) × (after ≡ before)) → PlanAnswer g x before after r
  plan_cases before after r a = record {
    size = length p.block.items;
    block = (y.block.set, record { order = _; is_order = y.order; largest = y.block.largest });
    plan = paint p.drives;
    is_plan = subst (λ (k : ℕ). PlanAt g x.standing x.climbs k (paint p.drives)) y.floor y.plan;
    others = plan_others g x.standing x.climbs p.floor (paint p.drives) y.plan;
    cases = a;
  }

module _ {S B : Type 0} {gs : Ghosts S} (graph : S → Graph) (g : Graph) (h : History) (p : Planner S B gs) (x : Explains graph g h p) where
  pub blocks : (before after : List ℕ) (r : Result ℕ Refusal) → takes p.progress.standing operation.Block ≡ true → MatchResult r (λ n. (n ≡ length p.progress.block.items) × (n ≤ length after) × (take n after ≡ p.progress.block.items) × (drop n after ≡ drop n before)) (λ e. (e ≡ ShortBuffer) × (length before < length p.progress.block.items) × (after ≡ before)) → BlockTold (graph_at g (point_at g h)) (point_at g h) before after r
  blocks before after r t a =
      let e = ap (λ s. takes s operation.Block) (sym x.holds.standing) ∙ t in
      let y = found _ _ (point_at g h).standing e x.holds.numbers in
      when_yes (takes (point_at g h).standing operation.Block) _ _ e (block_cases (graph_at g (point_at g h)) (point_at g h) p.progress y before after r a)

  pub plans : (before after : List Row) (r : Result (Unit {0}) Refusal) → takes p.progress.standing operation.Plan ≡ true → MatchResult r (λ _. ((graph p.layer.below).size ≤ length after) × (take (graph p.layer.below).size after ≡ rows (paint p.progress.drives) (graph p.layer.below).size) × (drop (graph p.layer.below).size after ≡ drop (graph p.layer.below).size before)) (λ e. (e ≡ ShortBuffer) × (length before < (graph p.layer.below).size) × (after ≡ before)) → PlanTold (graph_at g (point_at g h)) (point_at g h) before after r
  plans before after r t a =
      let e = ap (λ s. takes s operation.Plan) (sym x.holds.standing) ∙ t in
      let y = found _ _ (point_at g h).standing e x.holds.numbers in
      let P : Graph → Type 0 = λ G. MatchResult r (λ _. (G.size ≤ length after) × (take G.size after ≡ rows (paint p.progress.drives) G.size) × (drop G.size after ≡ drop G.size before)) (λ e. (e ≡ ShortBuffer) × (length before < G.size) × (after ≡ before)) in
      when_yes (takes (point_at g h).standing operation.Plan) _ _ e (plan_cases (graph_at g (point_at g h)) (point_at g h) p.progress y before after r (subst P x.below a))

  -- the graph of the layer is the graph of the point
  pub caps : (r : Result ℕ Refusal) (edges edges' : List Edge) (living living' marks marks' : List ℕ) → MatchResult r (λ top. CappedIn (without (graph p.layer.below) (marked p.layer.hidden)) edges edges' living living' marks marks' top) (λ _. (edges' ≡ edges) × (living' ≡ living) × (marks' ≡ marks)) → MatchResult r (λ top. CappedIn (graph_at g (point_at g h)) edges edges' living living' marks marks' top) (λ _. (edges' ≡ edges) × (living' ≡ living) × (marks' ≡ marks))
  caps r edges edges' living living' marks marks' a =
      subst (λ G. MatchResult r (λ top. CappedIn G edges edges' living living' marks marks' top) (λ _. (edges' ≡ edges) × (living' ≡ living) × (marks' ≡ marks))) (layer_graph graph g h p x) a

  pub caps_refused : (r : Result ℕ Refusal) (edges living marks : ℕ) → MatchResult r (λ _. CapFits (without (graph p.layer.below) (marked p.layer.hidden)) edges living marks) (CapRefused (without (graph p.layer.below) (marked p.layer.hidden)) edges living marks) → MatchResult r (λ _. CapFits (graph_at g (point_at g h)) edges living marks) (CapRefused (graph_at g (point_at g h)) edges living marks)
  caps_refused r edges living marks a =
      subst (λ G. MatchResult r (λ _. CapFits G edges living marks) (CapRefused G edges living marks)) (layer_graph graph g h p x) a
