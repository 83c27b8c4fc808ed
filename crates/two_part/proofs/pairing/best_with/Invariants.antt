use Rattle.std.proofs.Common.{◌≡◌, ◌+◌, cond, ◌&&◌, leb, get_or}
use Rattle.grids.specs.Largest.{at_least, most}
use Rattle.two_part.proofs.pairing.best_with.Given as goal

abbrev pub invariant-loop-r : goal.invariant-loop-r
invariant-loop-r l = l.best ≡ most (λ r. cond (leb r (at_least l.us l.s) && leb l.s (get_or l.reached r 0)) (r + l.s) 0) l.r
