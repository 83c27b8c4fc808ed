use Rattle.std.proofs.Common.{◌≡◌, ℕ, ◌<◌, get_or}
use Rattle.supports.specs.Peel.{alive}
use Rattle.items.specs.Marks.{Same}
use Rattle.peeling.proofs.count_all.Given as goal

abbrev pub invariant-loop-i : goal.invariant-loop-i
invariant-loop-i g l =
    ((k : ℕ) → k < l.i → get_or l.living k 0 ≡ 1 → get_or l.counts k 0 ≡ g.P.Peeled.support l.pool l.list (alive (g.P.Peeled.items l.pool l.list) l.living) k)
    × Same l.initial.marks l.marks
