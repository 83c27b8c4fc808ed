use Rattle.std.proofs.Common.{length}
use Rattle.supports.specs.Peel.{alive}
use Rattle.cohesion.proofs.Chains.{Walk, met}
use Rattle.cohesion.proofs.Raises.{Raised}
use Rattle.communities.proofs.walks.Edges.raise.Given as goal

abbrev pub invariant-loop-at : goal.invariant-loop-at
invariant-loop-at l =
    Walk l.self.list.now l.u l.at
    × Raised (met l.self.list.now (alive (length l.self.list.now) l.self.living.now) l.u l.at) l.self.n l.from l.to l.initial.marks l.marks l.total

abbrev pub decreases-loop-at : goal.decreases-loop-at
decreases-loop-at l = l.at
