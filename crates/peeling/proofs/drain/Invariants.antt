use Rattle.std.proofs.Common.{◌≡◌, ◌-◌, ◌≤◌, length, drop}
use Rattle.supports.proofs.Draining.{Draining}
use Rattle.items.specs.Marks.{Same}
use Rattle.peeling.proofs.drain.Given as goal

abbrev pub invariant-loop-head : goal.invariant-loop-head
invariant-loop-head g l =
    Draining (g.P.Peeled.support l.pool l.list) (g.P.Peeled.items l.pool l.list) l.least l.initial.living l.living l.counts l.taken l.head l.tail
    × (l.tail ≤ length l.taken) × (l.initial.tail ≤ l.tail)
    × (drop l.tail l.taken ≡ drop l.tail l.initial.taken)
    × Same l.initial.marks l.marks

abbrev pub decreases-loop-head : goal.decreases-loop-head
decreases-loop-head g l = g.P.Peeled.items l.pool l.list - l.head
