use Rattle.std.proofs.Common.{◌≡◌, ℕ, ◌≤◌, true, length, take}
use Rattle.finite.specs.Finite.{count, has}
use Rattle.supports.specs.Peel.{alive}
use Rattle.supports.proofs.Descents.{Descent}
use Rattle.items.specs.Marks.{Same}
use Rattle.peeling.proofs.descend.Given as goal

abbrev pub invariant-loop-low : goal.invariant-loop-low
invariant-loop-low g l =
    Descent (g.P.Peeled.support l.pool l.list) (g.P.Peeled.items l.pool l.list) l.initial.living l.living l.counts (take l.len l.taken) l.next
    × (l.len ≤ length l.taken)
    × ((k : ℕ) → has (take l.len l.taken) k ≡ true → alive (g.P.Peeled.items l.pool l.list) l.initial.living k ≡ true)
    × Same l.initial.marks l.marks

abbrev pub decreases-loop-low : goal.decreases-loop-low
decreases-loop-low g l = count (alive (g.P.Peeled.items l.pool l.list) l.living) (g.P.Peeled.items l.pool l.list)
