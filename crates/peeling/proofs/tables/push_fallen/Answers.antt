use Rattle.std.proofs.Common.{◌≡◌, ℕ, ◌+◌, List, length, get_or, take, sym, subst, subst₂, arith}
use Rattle.std.proofs.lemmas.Bool.{eq-eqb}
use Rattle.std.proofs.lemmas.List.{take_all}
use Rattle.finite.specs.Finite.{count, has}
use Rattle.finite.proofs.Counts.{count_le, has_at}
use Rattle.supports.proofs.Queues.{Queue, fallen, queue_none, queue_skip, queue_push, queue_room, fallen_none, fallen_yes, fallen_no, fallen_fresh}
use Rattle.peeling.proofs.tables.push_fallen.Goals as goal
use Rattle.peeling.proofs.tables.push_fallen.Goals.{then-counts-x, else-counts-x}

whole : (out : List ℕ) (n : ℕ) → count (has out) n ≡ length out → count (has (take (length out) out)) n ≡ length out
whole out n m = subst (λ (xs : List ℕ). count (has xs) n ≡ length out) (sym (take_all (length out) out (omega arith))) m

pub loop-x-init : goal.loop-x-init
loop-x-init c = queue_none c.args.n (fallen c.args.lost.now c.args.counts.now c.args.least 0) c.args.taken.now c.args.tail (omega (arith, c.requires.queue, count_le (has (take c.args.tail c.args.taken.now)) c.args.n, c.requires.takes)) c.requires.queue (fallen_none c.args.lost.now c.args.counts.now c.args.least)

pub bounds-counts-x : goal.bounds-counts-x
bounds-counts-x c =
    omega (arith, c.requires.within _ (has_at c.args.lost.now c.loop-x.x-index (omega arith)), c.requires.counted)

pub bounds-taken-end : goal.bounds-taken-end
bounds-taken-end c =
    let n = c.args.n in
    let out = c.args.lost.now in
    let j = c.loop-x.x-index in
    let h = has_at out j (omega arith) in
    let f = fallen_fresh n c.args.least out c.args.counts.now c.args.taken.now c.loop-x.taken c.args.tail c.loop-x.end (length out) j (whole out n c.requires.many) (omega arith) (omega arith) c.loop-x.invariant (c.requires.fresh (get_or out j 0) h (eq-eqb _ _ c.if-counts-x.true)) in
    let r = queue_room n _ c.args.taken.now c.loop-x.taken c.args.tail c.loop-x.end (get_or out j 0) c.loop-x.invariant (omega (arith, c.requires.takes)) (c.requires.within (get_or out j 0) h) f in
    omega (arith, c.requires.takes)

pub loop-x-preserved : goal.loop-x-preserved
loop-x-preserved c =
    let n = c.args.n in
    let out = c.args.lost.now in
    let counts = c.args.counts.now in
    let k = c.args.least in
    let j = c.loop-x.x-index in
    let q = c.loop-x.invariant in
    let old = c.args.taken.now in
    let h = has_at out j (omega arith) in
    let R : List ℕ → ℕ → Type 0 = λ xs t. Queue n (fallen out counts k (j + 1)) old xs c.args.tail t in
    elim c.if-counts-x.branch [
      | then-counts-x w ↦
          let f = fallen_fresh n k out counts old c.loop-x.taken c.args.tail c.loop-x.end (length out) j (whole out n c.requires.many) (omega arith) (omega arith) q (c.requires.fresh (get_or out j 0) h (eq-eqb _ _ w.if-counts-x.true)) in
          subst₂ R (sym w.taken-is) (sym w.end-is) (queue_push n (fallen out counts k j) old c.loop-x.taken c.args.tail c.loop-x.end (get_or out j 0) q (omega (arith, c.requires.takes)) (c.requires.within (get_or out j 0) h) f (fallen out counts k (j + 1)) (fallen_yes out counts k j (omega arith) w.if-counts-x.true))
      | else-counts-x w ↦ subst₂ R (sym w.taken-is) (sym w.end-is) (queue_skip n (fallen out counts k j) (fallen out counts k (j + 1)) old c.loop-x.taken c.args.tail c.loop-x.end q (fallen_no out counts k j (omega arith) w.if-counts-x.false))
    ]

pub returns : goal.returns
returns c =
    let e : c.loop-x.x-index ≡ length c.args.lost.now = omega arith in
    subst (λ (j : ℕ). Queue c.args.n (fallen c.args.lost.now c.args.counts.now c.args.least j) c.args.taken.now c.loop-x.taken c.args.tail c.loop-x.end) e c.loop-x.invariant
