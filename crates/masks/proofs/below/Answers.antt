use native.Mathlib.Omega.{arith}
use Rattle.finite.proofs.Masks.{bit_below, one_at}
use Rattle.masks.proofs.below.Goals as goal

pub returns-then-n-eq64 : goal.returns-then-n-eq64
returns-then-n-eq64 c = simp c.if-n-eq64.true (bit_below 64)

pub returns-else-n-eq64 : goal.returns-else-n-eq64
returns-else-n-eq64 c = let e = one_at c.args.n (omega arith) in rw e (bit_below c.args.n)
