-- Calls without a slip, and strings of calls.
use Rattle.std.proofs.Common.{◌≡◌, ℕ, ◌+◌, ◌<◌, Bool, true, false, cond, List, [], ◌∷◌, ◌++◌, length, get_or, take, MatchBool, sym, refl, ap, ◌∙◌, subst, append_assoc}
use Rattle.std.proofs.lemmas.List.{take_more}
use Rattle.std.proofs.lemmas.Bool.{false≢true}
use Rattle.bounds.specs.declared.by_size.SizeBound.{SizeBound}
use Rattle.graph.specs.declared.Source.{Ghosts}
use Rattle.graph.specs.declared.refusal.Refusal.{Refusal}
use Rattle.graph.specs.Graph.{Graph, Lawful}
use Rattle.calls.specs.declared.standing.Standing.{Standing}
use Rattle.calls.specs.declared.standing.Standing.TheVariants.{Loose, Ordered, Climbed, Pulled, Won, Closed}
use Rattle.calls.specs.declared.standing.Operation.TheVariants as operation
use Rattle.calls.specs.declared.call.Call.{Call}
use Rattle.calls.specs.declared.call.Call.TheVariants.{Hide, Show, Order, Climb, Pull, Try, PutBack, Report}
use Rattle.calls.specs.declared.call.Reply.{Reply}
use Rattle.calls.specs.declared.call.Reply.TheVariants.{Refused}
use Rattle.calls.specs.Table.{takes, out, operation}
use Rattle.calls.specs.Points.{History, Point, event, moved, next, point_at, said_yes, was_taken}
use Rattle.calls.specs.Fair.{Fair, FairRun, after}
use Rattle.calls.specs.Laws.{Run}
use Rattle.runs.proofs.Runs.{runs_right}
use Rattle.planner.specs.declared.planner.Planner.{Planner}
use Rattle.planner.specs.Explains.{Explains, Serves}
use Rattle.running.specs.declared.nothing.Nothing.{Nothing}
use Rattle.running.specs.Spares.{SpareAt}
use Rattle.running.specs.Played.{Matched, Carried}

-- whether a call has to do with slips
abbrev pub slips : Call → Bool
slips (Hide c) = false
slips (Show c) = false
slips Order = false
slips Climb = false
slips Pull = true
slips Try = false
slips PutBack = true
slips Report = false

-- a call that is taken is one that the standing takes
when_taken : (b : Bool) (P : Type 0) (r : Reply) (e : Refusal) → MatchBool b P (r ≡ Refused e) → was_taken r ≡ true → b ≡ true
when_taken true P r e w t = refl
when_taken false P r e w t = absurd (false≢true (sym (ap was_taken w) ∙ t))

-- hides, shows and orders are taken where no kernel is out; climbs too; tries where one is
free_in : (s : Standing) → takes s operation.Hide ≡ true → out s ≡ false
free_in Loose e = refl
free_in Ordered e = refl
free_in Climbed e = refl
free_in Pulled e = absurd (false≢true e)
free_in Won e = absurd (false≢true e)
free_in Closed e = refl

climb_in : (s : Standing) → takes s operation.Climb ≡ true → out s ≡ false
climb_in Loose e = refl
climb_in Ordered e = refl
climb_in Climbed e = refl
climb_in Pulled e = absurd (false≢true e)
climb_in Won e = absurd (false≢true e)
climb_in Closed e = refl

try_out : (s : Standing) → takes s operation.Try ≡ true → out s ≡ true
try_out Loose e = absurd (false≢true e)
try_out Ordered e = absurd (false≢true e)
try_out Climbed e = absurd (false≢true e)
try_out Pulled e = refl
try_out Won e = refl
try_out Closed e = absurd (false≢true e)

climbed_in : (b : Bool) → out (cond b Climbed Ordered) ≡ false
climbed_in true = refl
climbed_in false = refl

tried_out : (b : Bool) → out (cond b Won Pulled) ≡ true
tried_out true = refl
tried_out false = refl

moved_same : (g : Graph) (x : Point) (c : Call) (won : Bool) → slips c ≡ false → takes x.standing (operation c) ≡ true → out (moved g x c won).standing ≡ out x.standing
moved_same g x (Hide c) won e t = sym (free_in x.standing t)
moved_same g x (Show c) won e t = sym (free_in x.standing t)
moved_same g x Order won e t = climbed_in _ ∙ sym (free_in x.standing t)
moved_same g x Climb won e t = climbed_in _ ∙ sym (climb_in x.standing t)
moved_same g x Pull won e t = absurd (false≢true (sym e))
moved_same g x Try won e t = tried_out won ∙ sym (try_out x.standing t)
moved_same g x PutBack won e t = absurd (false≢true (sym e))
moved_same g x Report won e t = refl

-- such a call leaves a kernel where it is
out_at : (g : Graph) (x : Point) (c : Call) (r : Reply) (b : Bool) → was_taken r ≡ b → slips c ≡ false → Fair g x c r → out (cond b (moved g x c (said_yes r)) x).standing ≡ out x.standing
out_at g x c r true e s f = moved_same g x c (said_yes r) s (when_taken _ _ r _ f e)
out_at g x c r false e s f = refl

pub out_next : (g : Graph) (x : Point) (c : Call) (r : Reply) → slips c ≡ false → Fair g x c r → out (next g x (event c r)).standing ≡ out x.standing
out_next g x c r s f = out_at g x c r (was_taken r) refl s f

pub matched_same : {S B : Type 0} {gs : Ghosts S} {ns : Ghosts Nothing} (graph : S → Graph) (p q : Planner S B gs) (spare : Planner Nothing SizeBound ns) (c : Call) (r : Reply) → slips c ≡ false → Matched graph p spare → Serves graph p c r q → Matched graph q spare
matched_same graph p q spare c r s m v =
    let y = v m.base m.history m.explains in
    record {
      base = m.base;
      history = event c r ∷ m.history;
      explains = y.1;
      other = subst (λ b. SpareAt (cond b Climbed Pulled) spare) (sym (out_next m.base (point_at m.base m.history) c r s y.0)) m.other;
    }

-- one call more
pub fair_push : (g : Graph) (h : History) (cs : List Call) (rs : List Reply) (c : Call) (r : Reply) → FairRun g h cs rs → Fair g (point_at g (after h cs rs)) c r → FairRun g h (cs ++ c ∷ []) (rs ++ r ∷ [])
fair_push g h [] [] c r a b = (b, tt)
fair_push g h [] (y ∷ rs) c r a b = absurd a
fair_push g h (x ∷ cs) [] c r a b = absurd a
fair_push g h (x ∷ cs) (y ∷ rs) c r a b = (a.0, fair_push g (event x y ∷ h) cs rs c r a.1 b)

pub after_push : (g : Graph) (h : History) (cs : List Call) (rs : List Reply) (c : Call) (r : Reply) → FairRun g h cs rs → after h (cs ++ c ∷ []) (rs ++ r ∷ []) ≡ event c r ∷ after h cs rs
after_push g h [] [] c r a = refl
after_push g h [] (y ∷ rs) c r a = absurd a
after_push g h (x ∷ cs) [] c r a = absurd a
after_push g h (x ∷ cs) (y ∷ rs) c r a = after_push g (event x y ∷ h) cs rs c r a.1

carried_more : {S B : Type 0} {gs : Ghosts S} (graph : S → Graph) (p q t : Planner S B gs) (cs : List Call) (c : Call) (r : Reply) (old new more : List Reply) → Carried graph p cs old new q → Serves graph q c r t → more ≡ new ++ r ∷ [] → Carried graph p (cs ++ c ∷ []) old more t
carried_more graph p q t cs c r old new more a s e = record {
  fresh = a.fresh ++ r ∷ [];
  joined = e ∙ ap (λ l. l ++ r ∷ []) a.joined ∙ append_assoc old a.fresh (r ∷ []);
  fair = λ g h x.
      let y = a.fair g h x in
      let z = s g (after h cs a.fresh) y.1 in
      (fair_push g h cs a.fresh c r y.0 z.0, rw (after_push g h cs a.fresh c r y.0) z.1);
}

-- the same, in a loop over the calls
pub carried_next : {S B : Type 0} {gs : Ghosts S} (graph : S → Graph) (p q t : Planner S B gs) (cs : List Call) (i : ℕ) (d : Call) (r : Reply) (old new more : List Reply) → i < length cs → Carried graph p (take i cs) old new q → Serves graph q (get_or cs i d) r t → more ≡ new ++ r ∷ [] → Carried graph p (take (i + 1) cs) old more t
carried_next graph p q t cs i d r old new more l a s e =
    rw (take_more cs i d l) (carried_more graph p q t (take i cs) (get_or cs i d) r old new more a s e)

-- a call under another name
pub served : {S B : Type 0} {gs : Ghosts S} {ns : Ghosts Nothing} (graph : S → Graph) (p q : Planner S B gs) (spare : Planner Nothing SizeBound ns) (call c : Call) (r a : Reply) → call ≡ c → r ≡ a → slips c ≡ false → Matched graph p spare → Serves graph p c a q → Serves graph p call r q × Matched graph q spare
served graph p q spare call c r a e f s m v =
    (subst (λ k. Serves graph p k r q) (sym e) (subst (λ k. Serves graph p c k q) (sym f) v), matched_same graph p q spare c a s m v)

-- a whole string
pub run_from : {S B : Type 0} {gs : Ghosts S} (graph : S → Graph) (g : Graph) (p q : Planner S B gs) (cs : List Call) (old new : List Reply) → Lawful g → Explains graph g [] p → old ≡ [] → Carried graph p cs old new q → Run g cs new
run_from graph g p q cs old new law x e a =
    let f = a.joined ∙ ap (λ (l : List Reply). l ++ a.fresh) e in
    subst (Run g cs) (sym f) (runs_right g cs a.fresh law (a.fair g [] x).0)
