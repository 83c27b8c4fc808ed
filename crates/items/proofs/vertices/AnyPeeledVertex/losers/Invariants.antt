use Rattle.std.proofs.Common.{◌≡◌}
use Rattle.supports.specs.Peel.{alive}
use Rattle.supports.proofs.Queues.{Queue}
use Rattle.cohesion.proofs.Near.{near}
use Rattle.items.proofs.vertices.AnyPeeledVertex.losers.Given as goal

abbrev pub invariant-loop-b : goal.invariant-loop-b
invariant-loop-b g l =
    ((g.S.Source.graph l.b-iterator.source.now ≡ g.S.Source.graph l.self) × (l.b-iterator.vertex ≡ l.x))
    × Queue (g.S.Source.graph l.self).size (near (g.S.Source.graph l.self) (alive (g.S.Source.graph l.self).size l.living) l.x l.b-iterator.passed) l.initial.out l.out 0 l.len
