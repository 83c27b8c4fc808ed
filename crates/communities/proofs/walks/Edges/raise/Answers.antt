use Rattle.std.proofs.Common.{◌≡◌, ℕ, ◌+◌, ◌-◌, ◌<◌, List, length, sym, ap, ◌∙◌, subst₂, arith, rules}
use Rattle.std.proofs.lemmas.Bool.{eqb-true, eqb-false}
use Rattle.finite.proofs.Counts.{count_le}
use Rattle.supports.specs.Peel.{alive}
use Rattle.supports.proofs.Peels.{alive_yes, alive_no}
use Rattle.cohesion.specs.Common.{linked}
use Rattle.cohesion.proofs.Chains.{met, walk_start, walk_next, met_none, met_yes, met_no, met_all}
use Rattle.cohesion.proofs.Raises.{Raised, fresh, raised_none, raised_same, raised_no, raised_yes, raised_all, stand_within, stand_smaller, stand_far, stand_next, stand_less}
use Rattle.communities.proofs.walks.Edges.raise.Goals as goal
use Rattle.communities.proofs.walks.Edges.raise.Goals.{then-lives+then-marks-w, else-lives, else-lives-via-then-lives+else-marks-w, else-lives-via-else-lives}

pub loop-at-init : goal.loop-at-init
loop-at-init c =
    let list = c.args.self.now.list.now in
    let e = c.args.self.now.chained.heads c.args.u c.requires.within in (
      walk_start list c.args.u _ e,
      raised_none _ c.args.self.now.n c.args.from c.args.to c.args.marks.now (met_none list (alive (length list) c.args.self.now.living.now) c.args.u _ e),
    )

pub offset_bounds-self-e : goal.offset_bounds-self-e
offset_bounds-self-e c =
    let w = stand_within c.args.self.now.n c.args.self.now.list.now c.args.self.now.table.now c.args.u c.loop-at.at c.args.self.now.chained c.loop-at.invariant.0 (omega arith) in
    let f = c.args.self.now.chained.few in
    search rules

pub bounds-self-e : goal.bounds-self-e
bounds-self-e c =
    stand_within c.args.self.now.n c.args.self.now.list.now c.args.self.now.table.now c.args.u c.loop-at.at c.args.self.now.chained c.loop-at.invariant.0 (omega arith)

pub lives-requires : goal.lives-requires
lives-requires c =
    omega (arith, stand_within c.args.self.now.n c.args.self.now.list.now c.args.self.now.table.now c.args.u c.loop-at.at c.args.self.now.chained c.loop-at.invariant.0 (omega arith), c.args.self.now.lives)

pub bounds-marks-w : goal.bounds-marks-w
bounds-marks-w c =
    omega (arith, stand_far c.args.self.now.n c.args.self.now.list.now c.args.self.now.table.now c.args.u c.loop-at.at c.args.self.now.chained c.loop-at.invariant.0 (omega arith) _ c.far_end-w.ensures, c.requires.room)

pub bounds-marks-w-then-marks-w : goal.bounds-marks-w-then-marks-w
bounds-marks-w-then-marks-w c =
    omega (arith, stand_far c.args.self.now.n c.args.self.now.list.now c.args.self.now.table.now c.args.u c.loop-at.at c.args.self.now.chained c.loop-at.invariant.0 (omega arith) _ c.far_end-w.ensures, c.requires.room)

pub overflow_add-total : goal.overflow_add-total
overflow_add-total c =
    let s = c.args.self.now.chained.listing.small in
    let h = count_le (fresh (met c.args.self.now.list.now (alive (length c.args.self.now.list.now) c.args.self.now.living.now) c.args.u c.loop-at.at) c.args.from c.args.marks.now) c.args.self.now.n in
    let t = c.loop-at.invariant.1.total_is in
    let k : c.loop-at.total + 1 < 2000 = omega arith in
    search rules

pub before-at-requires : goal.before-at-requires
before-at-requires c =
    stand_within c.args.self.now.n c.args.self.now.list.now c.args.self.now.table.now c.args.u c.loop-at.at c.args.self.now.chained c.loop-at.invariant.0 (omega arith)

pub loop-at-smaller : goal.loop-at-smaller
loop-at-smaller c =
    stand_less c.args.self.now.n c.args.self.now.list.now c.args.self.now.table.now c.args.u c.loop-at.at c.args.self.now.chained c.loop-at.invariant.0 (omega arith) _ c.before-at.ensures

pub loop-at-preserved : goal.loop-at-preserved
loop-at-preserved c =
    let n = c.args.self.now.n in
    let list = c.args.self.now.list.now in
    let u = c.args.u in
    let at = c.loop-at.at in
    let S = alive (length list) c.args.self.now.living.now in
    let wk = c.loop-at.invariant.0 in
    let pos : 0 < at = omega arith in
    let ch = c.args.self.now.chained in
    let r = c.before-at.result in
    let nx = stand_next n list c.args.self.now.table.now u at ch wk pos r c.before-at.ensures in
    let x = c.far_end-w.result in
    let lx = stand_far n list c.args.self.now.table.now u at ch wk pos x c.far_end-w.ensures in
    let lt = stand_smaller n list c.args.self.now.table.now u at ch wk pos in
    let le = stand_within n list c.args.self.now.table.now u at ch wk pos in
    let yes = met_yes list S u at r wk pos nx x lt c.far_end-w.ensures in
    let before = c.args.marks.now in
    let R : List ℕ → ℕ → Type 0 = λ m t. Raised (met list S u r) n c.args.from c.args.to before m t in (
      walk_next list u at r wk pos nx,
      elim c.if-lives.branch [
        | then-lives+then-marks-w w ↦ subst₂ R (sym w.marks-is) (sym w.total-is) (raised_yes (met list S u at) (met list S u r) n c.args.from c.args.to before c.loop-at.marks c.loop-at.total x (yes (alive_yes (length list) c.args.self.now.living.now (at - 1) le (eqb-true _ 1 (sym c.lives.ensures ∙ w.if-lives.true)))) c.requires.differ c.loop-at.invariant.1 lx (omega (arith, c.requires.room)) w.if-marks-w.true)
        | else-lives w ↦ subst₂ R (sym w.marks-is) (sym w.total-is) (elim w.else-lives.branch [
          | else-lives-via-then-lives+else-marks-w v ↦ raised_no (met list S u at) (met list S u r) n c.args.from c.args.to before c.loop-at.marks c.loop-at.total x (yes (alive_yes (length list) c.args.self.now.living.now (at - 1) le (eqb-true _ 1 (sym c.lives.ensures ∙ v.if-lives.true)))) c.requires.differ c.loop-at.invariant.1 lx v.if-marks-w.false
          | else-lives-via-else-lives v ↦ raised_same (met list S u at) (met list S u r) n c.args.from c.args.to before c.loop-at.marks c.loop-at.total (met_no list S u at r wk pos nx (alive_no (length list) c.args.self.now.living.now (at - 1) (eqb-false _ 1 (sym c.lives.ensures ∙ v.if-lives.false)))) c.loop-at.invariant.1
        ])
      ],
    )

pub returns : goal.returns
returns c =
    let list = c.args.self.now.list.now in
    let S = alive (length list) c.args.self.now.living.now in
    let z : c.loop-at.at ≡ 0 = omega arith in
    let r = raised_all (met list S c.args.u c.loop-at.at) (linked list S c.args.u) c.args.self.now.n c.args.from c.args.to c.args.marks.now c.loop-at.marks c.loop-at.total (λ w. ap (λ v. met list S c.args.u v w) z ∙ met_all list S c.args.u w) c.loop-at.invariant.1 in
    record { marks = r.0; total = r.1 }
