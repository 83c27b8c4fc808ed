use Rattle.std.proofs.Common.{◌≡◌, leb, get_or}
use Rattle.finite.specs.Finite.{count}
use Rattle.two_part.proofs.pairing.reach.Given as goal

abbrev pub invariant-loop-t : goal.invariant-loop-t
invariant-loop-t l = l.count ≡ count (λ k. leb l.least (get_or l.tops k 0)) l.t-index
