-- Where a course of calls leads.
use Rattle.std.proofs.Common.{◌≡◌, ℕ, zero, suc, ◌+◌, Bool, true, false, cond, not, eqb, List, [], ◌∷◌, ◌++◌, replicate, sym, refl, ap, ◌∙◌, subst, inl, inr, arith}
use Rattle.std.proofs.lemmas.Bool.{cases_Bool, false≢true, or_cases, not-true, eq-eqb, cond-true, cond-false}
use Rattle.graph.specs.Graph.{Graph}
use Rattle.graph.proofs.Hiding.{lawful_without}
use Rattle.calls.specs.declared.standing.Standing.{Standing}
use Rattle.calls.specs.declared.standing.Standing.TheVariants.{Closed}
use Rattle.calls.specs.declared.call.Call.{Call}
use Rattle.calls.specs.declared.call.Call.TheVariants.{Hide, Show, Order, Climb, Pull, Try, PutBack, Report}
use Rattle.calls.specs.declared.call.Reply.TheVariants.{Done, Tried}
use Rattle.calls.specs.Table.{loose}
use Rattle.calls.specs.Points.{Event, History, Point, event, graph_at, moved, next, point_at, said_yes, was_taken}
use Rattle.calls.specs.Parts.{PlanAt}
use Rattle.calls.specs.Laws.{AllClimbs, Course, CoursesProve, is_report, loud, on_top, quiet}
use Rattle.runs.proofs.Sound.{Sound, sound}
use Rattle.runs.proofs.Reports.{ordered_numbers, last_used, floor_low}

-- the point that events lead to from a point
abbrev pub run : Graph → Point → List Event → Point
run g x [] = x
run g x (e ∷ es) = run g (next g x e) es

pub run_on_top : (g : Graph) (h : History) (es : List Event) → point_at g (on_top h es) ≡ run g (point_at g h) es
run_on_top g h [] = refl
run_on_top g h (e ∷ es) = run_on_top g (e ∷ h) es

pub run_append : (g : Graph) (x : Point) (es fs : List Event) → run g x (es ++ fs) ≡ run g (run g x es) fs
run_append g x [] fs = refl
run_append g x (e ∷ es) fs = run_append g (next g x e) es fs

-- ---- reports and refused calls change nothing

reported : (g : Graph) (x : Point) (c : Call) (taken won : Bool) → is_report c ≡ true → cond taken (moved g x c won) x ≡ x
reported g x (Hide k) taken won e = absurd (false≢true e)
reported g x (Show k) taken won e = absurd (false≢true e)
reported g x Order taken won e = absurd (false≢true e)
reported g x Climb taken won e = absurd (false≢true e)
reported g x Pull taken won e = absurd (false≢true e)
reported g x Try taken won e = absurd (false≢true e)
reported g x PutBack taken won e = absurd (false≢true e)
reported g x Report true won e = refl
reported g x Report false won e = refl

next_quiet : (g : Graph) (x : Point) (e : Event) → quiet e ≡ true → next g x e ≡ x
next_quiet g x e q =
    elim (or_cases (is_report e.call) (not (was_taken e.reply)) q) [
      | inl y ↦ reported g x e.call (was_taken e.reply) (said_yes e.reply) y
      | inr y ↦ cond-false (was_taken e.reply) (moved g x e.call (said_yes e.reply)) x (not-true (was_taken e.reply) y)
    ]

pub run_loud : (g : Graph) (x : Point) (es : List Event) → run g x es ≡ run g x (loud es)
run_loud g x [] = refl
run_loud g x (e ∷ es) =
    elim (cases_Bool (quiet e)) [
      | inl y ↦ ap (λ (z : Point). run g z es) (next_quiet g x e y) ∙ run_loud g x es ∙ sym (ap (run g x) (cond-true (quiet e) (loud es) (e ∷ loud es) y))
      | inr y ↦ run_loud g (next g x e) es ∙ sym (ap (run g x) (cond-false (quiet e) (loud es) (e ∷ loud es) y))
    ]

-- ---- the parts of a course

-- climbs leave the noes as they are
climbs_noes : (g : Graph) (x : Point) (es : List Event) → AllClimbs es → (run g x es).noes ≡ x.noes
climbs_noes g x [] f = refl
climbs_noes g x (e ∷ es) f =
    climbs_noes g (next g x e) es f.1 ∙ ap (λ (c : Call). (cond (was_taken e.reply) (moved g x c (said_yes e.reply)) x).noes) f.0 ∙ either (was_taken e.reply)
  where
    either : (b : Bool) → (cond b (moved g x Climb (said_yes e.reply)) x).noes ≡ x.noes
    either true = refl
    either false = refl

-- each no is counted
tries_noes : (g : Graph) (x : Point) (n : ℕ) → (run g x (replicate n (event Try (Tried false)))).noes ≡ x.noes + n
tries_noes g x zero = omega arith
tries_noes g x (suc n) =
    let h = tries_noes g (next g x (event Try (Tried false))) n in omega arith

-- a course ends closed, with as many noes as it has
pub course_end : (g : Graph) (h : History) (es : List Event) (noes : ℕ) → Course g h es noes → ((point_at g (on_top h es)).standing ≡ Closed) × ((point_at g (on_top h es)).noes ≡ noes)
course_end g h es noes w =
    let tries : List Event = replicate noes (event Try (Tried false)) in
    let end : List Event = event Try (Tried true) ∷ event PutBack Done ∷ [] in
    let a : Point = next g (point_at g h) (event Order Done) in
    let b : Point = run g a w.climbs in
    let c : Point = next g b (event Pull Done) in
    let d : Point = run g c tries in
    let e : point_at g (on_top h es) ≡ run g d end = run_on_top g h es ∙ run_loud g (point_at g h) es ∙ ap (run g (point_at g h)) w.shape ∙ run_append g a w.climbs (event Pull Done ∷ (tries ++ end)) ∙ run_append g c tries end in
    let m = climbs_noes g a w.climbs w.all_climbs in
    let n = tries_noes g c noes in
    (ap (λ (x : Point). x.standing) e, ap (λ (x : Point). x.noes) e ∙ omega arith)

pub courses_prove : CoursesProve
courses_prove g h es noes r lw f w rep =
    let x = point_at g (on_top h es) in
    let G = graph_at g x in
    let law = lawful_without g x.hidden lw in
    let so = sound g (on_top h es) f in
    let end = course_end g h es noes w in
    let firm : loose x.standing ≡ false = ap loose end.0 in
    let o = ordered_numbers G x r firm rep in
    let so-closed = subst (λ (s : Standing). Sound G s x.climbs x.noes) end.0 so in
    let plan = subst (λ (s : Standing). PlanAt G s x.climbs r.floor o.plan) end.0 o.is_plan in
    let u = last_used G x.climbs x.noes r.block r.floor o.plan law so-closed o.block o.floor plan in
    let low = floor_low G x r law so rep firm in
    (o.proved ∙ cond-true (eqb r.floor r.ceiling) 1 0 (eq-eqb r.floor r.ceiling (sym u ∙ sym o.ceiling)), omega (arith, o.floor, end.1))
