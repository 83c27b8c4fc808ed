use Rattle.std.proofs.Common.{◌≡◌, ℕ, ◌<◌, false, length, get_or}
use Rattle.climbing.proofs.Tails.{first_picked}
use Rattle.climb.proofs.blocks.picked_table.Given as goal

abbrev pub invariant-loop-i : goal.invariant-loop-i
invariant-loop-i l = (length l.table ≡ 1024) × ((c : ℕ) → c < 1024 → get_or l.table c false ≡ first_picked l.chosen l.mask l.i c)
