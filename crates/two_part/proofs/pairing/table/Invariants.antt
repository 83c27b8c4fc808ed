use Rattle.std.proofs.Common.{◌≡◌, ℕ, ◌<◌, length, get_or}
use Rattle.grids.specs.Largest.{at_least}
use Rattle.two_part.proofs.pairing.table.Given as goal

abbrev pub invariant-loop-r : goal.invariant-loop-r
invariant-loop-r l = (length l.reached.items ≡ l.r) × ((k : ℕ) → k < l.r → get_or l.reached.items k 0 ≡ at_least l.ws k)
