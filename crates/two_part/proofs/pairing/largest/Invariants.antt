use Rattle.std.proofs.Common.{◌≡◌, ◌+◌, cond}
use Rattle.grids.specs.Largest.{at_least, most, qualifies}
use Rattle.two_part.proofs.pairing.largest.Given as goal

abbrev pub invariant-loop-s : goal.invariant-loop-s
invariant-loop-s l = l.best ≡ most (λ s. most (λ r. cond (qualifies (at_least l.us) (at_least l.ws) r s) (r + s) 0) 65) l.s
