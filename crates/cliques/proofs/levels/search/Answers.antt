use Rattle.std.proofs.Common.{◌≡◌, ℕ, ◌+◌, ◌-◌, ◌<◌, ◌&&◌, ltb, get_or, set, sym, refl, rules, ap, ◌∙◌, subst, inl, inr, arith}
use Rattle.std.proofs.lemmas.List.{length-set}
use Rattle.finite.specs.Masks.{bit}
use Rattle.searching.specs.Cuts.{Cut}
use Rattle.searching.proofs.Stack.{State, start, tall, pop, room_next, push, ended}
use Rattle.searching.proofs.Weights.{load_popped, load_pushed}
use Rattle.cliques.specs.declared.levels.Level.{Level}
use Rattle.cliques.proofs.Stacked.{blank, spare_of, branch_of, picked_of, two}
use Rattle.cliques.proofs.levels.search.Given as given
use Rattle.cliques.proofs.levels.search.Goals as goal
use Rattle.cliques.proofs.levels.search.Goals.{In-loop-height, then-height-most, else-height-most}

pub loop-height-init : goal.loop-height-init
loop-height-init g c = (
  refl,
  start _ _ _ c.meet-spare.result c.first.result
      (λ j. c.meet-spare.ensures.members j ∙ ap (λ b. bit c.args.mask j && b) (c.below.ensures j ∙ ap (λ (x : ℕ). ltb j x) c.count.ensures.value))
      c.first.ensures.within c.first.ensures.cut _ _ _ refl refl refl,
)

-- the state, with the level at the top
was : (g : given.Over) (c : goal.In-loop-height g) → State c.args.p.now c.args.mask c.args.size (spare_of c.loop-height.stack) (branch_of c.loop-height.stack) (picked_of c.loop-height.stack) (c.loop-height.height - 1 + 1) c.loop-height.best c.loop-height.most
was g c =
    let e : c.loop-height.height ≡ c.loop-height.height - 1 + 1 = omega (arith, c.loop-height-test.true) in
    subst (λ (n : ℕ). State c.args.p.now c.args.mask c.args.size (spare_of c.loop-height.stack) (branch_of c.loop-height.stack) (picked_of c.loop-height.stack) n c.loop-height.best c.loop-height.most) e c.loop-height.invariant.1

few : (g : given.Over) (c : goal.In-loop-height g) → c.loop-height.height - 1 < 65
few g c = tall _ _ _ _ _ _ _ _ _ (was g c) _ _ refl refl

pub bounds-stack-top : goal.bounds-stack-top
bounds-stack-top g c = few g c

pub offset_bounds-stack-top : goal.offset_bounds-stack-top
offset_bounds-stack-top g c = let h = few g c in search rules

pub loop-height-preserved-then-branch-eq0 : goal.loop-height-preserved-then-branch-eq0
loop-height-preserved-then-branch-eq0 g c =
    let a = (goal.at.loop-height-preserved-then-branch-eq0 g c).In-loop-height in (
      c.loop-height.invariant.0,
      pop _ _ _ _ _ _ _ _ _ (was g a) _ _ refl refl (spare_of c.loop-height.stack) (branch_of c.loop-height.stack) (picked_of c.loop-height.stack) (λ k h. refl) (λ k h. refl) (λ k h. refl)
          c.again-branch.result c.if-branch-eq0.true c.again-branch.ensures.cut,
    )

pub loop-height-smaller-then-branch-eq0 : goal.loop-height-smaller-then-branch-eq0
loop-height-smaller-then-branch-eq0 g c = load_popped _ _ _ _ (omega arith) (λ k h. refl)

room : (g : given.Over) (c : goal.After-first-else-branch-eq0 g) → c.loop-height.height < 65
room g c =
    let a = (goal.at.bounds-stack-height g c).In-loop-height in
    let r = room_next _ _ _ _ _ _ _ _ _ (was g a) _ _ refl refl
    c.again-branch.result c.highest-v.result c.without-rest.result c.without.result c.meet-next.result c.with-chosen.result
    c.highest-v.ensures.place c.highest-v.ensures.member c.again-branch.ensures.within c.again-branch.ensures.cut c.without-rest.ensures.members c.without.ensures.members c.with-chosen.ensures
    (λ j. c.meet-next.ensures.members j ∙ ap (λ (x : ℕ). bit c.without-rest.result j && bit x j) c.row.ensures) in
    omega arith

pub bounds-stack-height : goal.bounds-stack-height
bounds-stack-height g c = room g c

pub loop-height-preserved : goal.loop-height-preserved
loop-height-preserved g c =
    let a = (goal.at.loop-height-preserved g c).In-loop-height in
    let xs = c.loop-height.stack in
    let n = c.loop-height.height in
    let e : n ≡ n - 1 + 1 = omega arith in
    let here : Level = record { picked = (get_or xs (n - 1) blank).picked; spare = c.without-rest.result; branch = c.without.result } in
    let new : Level = record { picked = c.with-chosen.result; spare = c.meet-next.result; branch = c.first-else-branch-eq0.result } in
    let zs = set (set xs (n - 1) here) n new in
    let pushed = two xs (n - 1) n here new e (omega (arith, room g c, c.loop-height.invariant.0)) in (
      length-set (set xs (n - 1) here) n new ∙ length-set xs (n - 1) here ∙ c.loop-height.invariant.0,
      subst (λ (h : ℕ). State c.args.p.now c.args.mask c.args.size (spare_of zs) (branch_of zs) (picked_of zs) (h + 1) c.if-height-most.best c.if-height-most.most) (sym e)
          (push _ _ _ _ _ _ (n - 1) _ _ (was g a) _ _ refl refl
          c.again-branch.result c.highest-v.result c.without-rest.result c.without.result c.meet-next.result c.with-chosen.result
          c.highest-v.ensures.place c.highest-v.ensures.member c.again-branch.ensures.within c.again-branch.ensures.cut c.without-rest.ensures.members c.without.ensures.members c.with-chosen.ensures
          (λ j. c.meet-next.ensures.members j ∙ ap (λ (x : ℕ). bit c.without-rest.result j && bit x j) c.row.ensures)
          c.first-else-branch-eq0.result (spare_of zs) (branch_of zs) (picked_of zs) (pushed (λ l. l.spare)) (pushed (λ l. l.branch)) (pushed (λ l. l.picked)) _ _
          (elim c.if-height-most.branch [ then-height-most w ↦ inl (omega (arith, w.if-height-most.true), w.most-is ∙ e, w.best-is) | else-height-most w ↦ inr (omega (arith, w.if-height-most.false), w.most-is, w.best-is) ])
          c.first-else-branch-eq0.ensures.within
          (subst (λ (h : ℕ). Cut c.args.p.now c.meet-next.result c.first-else-branch-eq0.result (c.if-height-most.most - h)) e c.first-else-branch-eq0.ensures.cut)),
    )

pub loop-height-smaller : goal.loop-height-smaller
loop-height-smaller g c =
    let xs = c.loop-height.stack in
    let n = c.loop-height.height in
    let e : n ≡ n - 1 + 1 = omega arith in
    let here : Level = record { picked = (get_or xs (n - 1) blank).picked; spare = c.without-rest.result; branch = c.without.result } in
    let new : Level = record { picked = c.with-chosen.result; spare = c.meet-next.result; branch = c.first-else-branch-eq0.result } in
    let pushed = two xs (n - 1) n here new e (omega (arith, room g c, c.loop-height.invariant.0)) (λ l. l.spare) in
    load_pushed _ _ n (n + 1) (n - 1) _ _ e (omega arith) pushed.low pushed.here pushed.next c.without-rest.ensures.less c.meet-next.ensures.bound

pub returns : goal.returns
returns g c = ended _ _ _ _ _ _ _ _ _ (omega arith) c.loop-height.invariant.1
