use Rattle.std.proofs.Common.{◌≡◌}
use Rattle.first_fit.proofs.Marks.{Marks}
use Rattle.first_fit.proofs.taken_near.Given as goal

abbrev pub invariant-loop-b : goal.invariant-loop-b
invariant-loop-b g l =
    ((g.S.Source.graph l.b-iterator.source.now ≡ g.S.Source.graph l.source) × (l.b-iterator.vertex ≡ l.x))
    × Marks (g.S.Source.graph l.source) l.x l.colours g.row.N l.b-iterator.passed l.taken
