use Rattle.std.proofs.Common.{◌≡◌}
use Rattle.degeneracy.proofs.Ranks.{Taken}
use Rattle.order.proofs.take_out.Given as goal

abbrev pub invariant-loop-b : goal.invariant-loop-b
invariant-loop-b g l =
    ((g.S.Source.graph l.b-iterator.source.now ≡ g.S.Source.graph l.source) × (l.b-iterator.vertex ≡ l.x))
    × Taken (g.S.Source.graph l.source) l.x l.initial.left l.left l.b-iterator.passed
