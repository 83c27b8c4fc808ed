use Rattle.std.proofs.Common.{◌≡◌, ℕ, ◌-◌, ◌<◌, true, List, length, get_or, take, sym, ◌∙◌, subst, subst₂, arith, rules}
use Rattle.finite.specs.Finite.{has}
use Rattle.std.proofs.lemmas.Bool.{eqb-true, eqb-false}
use Rattle.finite.proofs.Counts.{count_le}
use Rattle.supports.specs.Peel.{alive}
use Rattle.supports.proofs.Peels.{alive_below, alive_yes, alive_byte}
use Rattle.supports.proofs.Queues.{Queue, queue_none, queue_skip, queue_push, queue_room}
use Rattle.cohesion.proofs.Chains.{walk_start, walk_next}
use Rattle.cohesion.proofs.Raises.{picked, picked_none, picked_yes, picked_no, picked_new, stand_within, stand_far, stand_next, stand_less}
use Rattle.communities.proofs.walks.Edges.gather.Goals as goal
use Rattle.communities.proofs.walks.Edges.gather.Goals.{then-lives+then-marks-w, else-lives, else-lives-via-then-lives+else-marks-w, else-lives-via-else-lives}

pub loop-at-init : goal.loop-at-init
loop-at-init c =
    let list = c.args.self.now.list.now in
    let e = c.args.self.now.chained.heads c.args.u c.requires.within in
    let S = alive (length list) c.args.self.now.living.now in (
      walk_start list c.args.u _ e,
      queue_none (length list) _ c.args.out.now c.args.start (omega (arith, c.requires.many, count_le (has (take c.args.start c.args.out.now)) (length list), c.requires.lost)) c.requires.many (picked_none list S c.args.marks.now c.args.value c.args.u _ (λ k y. alive_below (length list) c.args.self.now.living.now k y) e),
    )

pub offset_bounds-self-e : goal.offset_bounds-self-e
offset_bounds-self-e c =
    let w = stand_within c.args.self.now.n c.args.self.now.list.now c.args.self.now.table.now c.args.u c.loop-at.at c.args.self.now.chained c.loop-at.invariant.0 (omega arith) in
    let f = c.args.self.now.chained.few in
    search rules

pub bounds-self-e : goal.bounds-self-e
bounds-self-e c =
    stand_within c.args.self.now.n c.args.self.now.list.now c.args.self.now.table.now c.args.u c.loop-at.at c.args.self.now.chained c.loop-at.invariant.0 (omega arith)

pub lives-requires : goal.lives-requires
lives-requires c =
    omega (arith, stand_within c.args.self.now.n c.args.self.now.list.now c.args.self.now.table.now c.args.u c.loop-at.at c.args.self.now.chained c.loop-at.invariant.0 (omega arith), c.args.self.now.lives)

pub bounds-marks-w : goal.bounds-marks-w
bounds-marks-w c =
    omega (arith, stand_far c.args.self.now.n c.args.self.now.list.now c.args.self.now.table.now c.args.u c.loop-at.at c.args.self.now.chained c.loop-at.invariant.0 (omega arith) _ c.far_end-w.ensures, c.requires.room)

pub overflow_cast-out : goal.overflow_cast-out
overflow_cast-out c =
    let w = stand_within c.args.self.now.n c.args.self.now.list.now c.args.self.now.table.now c.args.u c.loop-at.at c.args.self.now.chained c.loop-at.invariant.0 (omega arith) in
    let h : c.loop-at.at - 1 < 65536 = omega (arith, c.args.self.now.chained.few) in
    search rules

pub bounds-out-len : goal.bounds-out-len
bounds-out-len c =
    let list = c.args.self.now.list.now in
    let S = alive (length list) c.args.self.now.living.now in
    let at = c.loop-at.at in
    let pos : 0 < at = omega arith in
    let wk = c.loop-at.invariant.0 in
    let le = stand_within c.args.self.now.n list c.args.self.now.table.now c.args.u at c.args.self.now.chained wk pos in
    let nw = picked_new (length list) list S c.args.marks.now c.args.value c.args.u at c.far_end-w.result c.args.out.now c.loop-at.out c.args.start c.loop-at.len wk pos c.far_end-w.ensures (alive_yes (length list) c.args.self.now.living.now (at - 1) le (eqb-true _ 1 (sym c.lives.ensures ∙ c.if-lives.true))) c.if-marks-w.true c.loop-at.invariant.1 c.requires.fresh in
    let r = queue_room (length list) _ c.args.out.now c.loop-at.out c.args.start c.loop-at.len (at - 1) c.loop-at.invariant.1 (omega (arith, c.requires.lost)) le nw in
    omega (arith, c.requires.lost)

pub before-at-requires : goal.before-at-requires
before-at-requires c =
    stand_within c.args.self.now.n c.args.self.now.list.now c.args.self.now.table.now c.args.u c.loop-at.at c.args.self.now.chained c.loop-at.invariant.0 (omega arith)

pub loop-at-smaller : goal.loop-at-smaller
loop-at-smaller c =
    stand_less c.args.self.now.n c.args.self.now.list.now c.args.self.now.table.now c.args.u c.loop-at.at c.args.self.now.chained c.loop-at.invariant.0 (omega arith) _ c.before-at.ensures

pub loop-at-preserved : goal.loop-at-preserved
loop-at-preserved c =
    let n = c.args.self.now.n in
    let list = c.args.self.now.list.now in
    let u = c.args.u in
    let at = c.loop-at.at in
    let S = alive (length list) c.args.self.now.living.now in
    let marks = c.args.marks.now in
    let v = c.args.value in
    let wk = c.loop-at.invariant.0 in
    let q = c.loop-at.invariant.1 in
    let pos : 0 < at = omega arith in
    let ch = c.args.self.now.chained in
    let r = c.before-at.result in
    let nx = stand_next n list c.args.self.now.table.now u at ch wk pos r c.before-at.ensures in
    let x = c.far_end-w.result in
    let le = stand_within n list c.args.self.now.table.now u at ch wk pos in
    let old = c.args.out.now in
    let R : List ℕ → ℕ → Type 0 = λ m t. Queue (length list) (picked list S marks v u r) old m c.args.start t in
    let skip : (S (at - 1) ≡ true → get_or marks x 0 ≡ v → ⊥) → R c.loop-at.out c.loop-at.len = λ d. queue_skip (length list) (picked list S marks v u at) (picked list S marks v u r) old c.loop-at.out c.args.start c.loop-at.len q (picked_no list S marks v u at r x pos nx c.far_end-w.ensures d) in (
      walk_next list u at r wk pos nx,
      elim c.if-lives.branch [
        | then-lives+then-marks-w w ↦
            let y = alive_yes (length list) c.args.self.now.living.now (at - 1) le (eqb-true _ 1 (sym c.lives.ensures ∙ w.if-lives.true)) in
            let nw = picked_new (length list) list S marks v u at x old c.loop-at.out c.args.start c.loop-at.len wk pos c.far_end-w.ensures y w.if-marks-w.true q c.requires.fresh in
            subst₂ R (sym w.out-is) (sym w.len-is) (queue_push (length list) (picked list S marks v u at) old c.loop-at.out c.args.start c.loop-at.len (at - 1) q (omega (arith, c.requires.lost)) le nw (picked list S marks v u r) (picked_yes list S marks v u at r x wk pos nx c.far_end-w.ensures y w.if-marks-w.true))
        | else-lives w ↦ subst₂ R (sym w.out-is) (sym w.len-is) (elim w.else-lives.branch [
          | else-lives-via-then-lives+else-marks-w z ↦ skip (λ a b. z.if-marks-w.false b)
          | else-lives-via-else-lives z ↦ skip (λ a b. eqb-false _ 1 (sym c.lives.ensures ∙ z.if-lives.false) (alive_byte (length list) c.args.self.now.living.now (at - 1) a))
        ])
      ],
    )

pub returns : goal.returns
returns c =
    let list = c.args.self.now.list.now in
    let S = alive (length list) c.args.self.now.living.now in
    let z : c.loop-at.at ≡ 0 = omega arith in
    subst (λ k. Queue (length list) (picked list S c.args.marks.now c.args.value c.args.u k) c.args.out.now c.loop-at.out c.args.start c.loop-at.len) z c.loop-at.invariant.1
