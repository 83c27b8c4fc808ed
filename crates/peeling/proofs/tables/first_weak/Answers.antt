use Rattle.std.proofs.Common.{◌≡◌, ℕ, ◌+◌, ◌<◌, false, List, [], get_or, take, sym, subst₂, arith}
use Rattle.std.proofs.lemmas.Bool.Decides.{nat_tests}
use Rattle.finite.specs.Finite.{has}
use Rattle.finite.proofs.Counts.{count_empty, has_none}
use Rattle.supports.proofs.Queues.{Queue, lesser, queue_none, queue_skip, queue_push, queue_room, lesser_none, lesser_yes, lesser_no, lesser_out}
use Rattle.peeling.proofs.tables.first_weak.Goals as goal
use Rattle.peeling.proofs.tables.first_weak.Goals.{then-living-c-eq1+then-counts-c, else-living-c-eq1, else-living-c-eq1-via-then-living-c-eq1+else-counts-c, else-living-c-eq1-via-else-living-c-eq1}

pub loop-c-init : goal.loop-c-init
loop-c-init c =
    queue_none c.args.n (lesser c.args.n c.args.living.now c.args.counts.now c.args.least 0) c.args.taken.now 0 (omega arith) (count_empty (has []) c.args.n (λ k l. has_none k)) (lesser_none c.args.n c.args.living.now c.args.counts.now c.args.least)

-- the next is not yet queued
fresh : (n k c : ℕ) (living counts old taken : List ℕ) (tail : ℕ) → Queue n (lesser n living counts k c) old taken 0 tail → has (take tail taken) c ≡ false
fresh n k c living counts old taken tail q =
    let h = q.queue c in let z = has_none c in let f = lesser_out n living counts k c in grind (arith, nat_tests)

pub bounds-taken-tail : goal.bounds-taken-tail
bounds-taken-tail c =
    let q = c.loop-c.invariant in
    let r = queue_room c.args.n _ c.args.taken.now c.loop-c.taken 0 c.loop-c.tail c.loop-c.c q (omega (arith, c.requires.takes)) (omega arith) (fresh _ _ _ _ _ _ _ _ q) in
    omega (arith, c.requires.takes)

pub loop-c-preserved : goal.loop-c-preserved
loop-c-preserved c =
    let n = c.args.n in
    let living = c.args.living.now in
    let counts = c.args.counts.now in
    let k = c.args.least in
    let i = c.loop-c.c in
    let q = c.loop-c.invariant in
    let R : List ℕ → ℕ → Type 0 = λ xs t. Queue n (lesser n living counts k (i + 1)) c.args.taken.now xs 0 t in
    let skip : ((get_or living i 0 ≡ 1) → get_or counts i 0 < k → ⊥) → R c.loop-c.taken c.loop-c.tail = λ un. queue_skip n (lesser n living counts k i) (lesser n living counts k (i + 1)) c.args.taken.now c.loop-c.taken 0 c.loop-c.tail q (lesser_no n living counts k i un) in
    elim c.if-living-c-eq1.branch [
      | then-living-c-eq1+then-counts-c w ↦ subst₂ R (sym w.taken-is) (sym w.tail-is) (queue_push n (lesser n living counts k i) c.args.taken.now c.loop-c.taken 0 c.loop-c.tail i q (omega (arith, c.requires.takes)) (omega arith) (fresh n k i living counts c.args.taken.now c.loop-c.taken c.loop-c.tail q) (lesser n living counts k (i + 1)) (lesser_yes n living counts k i (omega arith) w.if-living-c-eq1.true w.if-counts-c.true))
      | else-living-c-eq1 w ↦ subst₂ R (sym w.taken-is) (sym w.tail-is) (skip (elim w.else-living-c-eq1.branch [
        | else-living-c-eq1-via-then-living-c-eq1+else-counts-c v ↦ λ a b. omega (arith, v.if-counts-c.false)
        | else-living-c-eq1-via-else-living-c-eq1 v ↦ λ a b. v.if-living-c-eq1.false a
      ]))
    ]
