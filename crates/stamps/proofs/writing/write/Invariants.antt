use Rattle.std.proofs.Common.{◌≡◌}
use Rattle.stamps.proofs.Ranks.{First}
use Rattle.stamps.proofs.writing.write.Given as goal

abbrev pub invariant-loop-b : goal.invariant-loop-b
invariant-loop-b g l =
    (g.S.Source.graph l.b-iterator.source.now ≡ g.S.Source.graph l.source) × (l.b-iterator.vertex ≡ l.v)
    × First (g.S.Source.graph l.source) l.v l.stamp l.initial.table l.table l.b-iterator.passed
