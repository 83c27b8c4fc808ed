use Rattle.std.proofs.Common.{length}
use Rattle.supports.specs.Peel.{alive}
use Rattle.supports.proofs.Queues.{Queue}
use Rattle.cohesion.proofs.Chains.{Walk}
use Rattle.cohesion.proofs.Raises.{picked}
use Rattle.communities.proofs.walks.Edges.gather.Given as goal

abbrev pub invariant-loop-at : goal.invariant-loop-at
invariant-loop-at l =
    Walk l.self.list.now l.u l.at
    × Queue (length l.self.list.now) (picked l.self.list.now (alive (length l.self.list.now) l.self.living.now) l.marks l.value l.u l.at) l.initial.out l.out l.start l.len

abbrev pub decreases-loop-at : goal.decreases-loop-at
decreases-loop-at l = l.at
