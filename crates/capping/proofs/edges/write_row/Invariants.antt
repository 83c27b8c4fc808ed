use Rattle.std.proofs.Common.{◌≡◌, ◌+◌, ◌++◌, length, take, drop}
use Rattle.caps.proofs.Rows.{met_edges}
use Rattle.capping.proofs.edges.write_row.Given as goal

abbrev pub invariant-loop-b : goal.invariant-loop-b
invariant-loop-b g l =
    ((g.S.Source.graph l.b-iterator.source.now ≡ g.S.Source.graph l.source) × (l.b-iterator.vertex ≡ l.a))
    × (take l.len l.clashes ≡ take l.start l.initial.clashes ++ met_edges (g.S.Source.graph l.source) l.a l.b-iterator.passed)
    × (l.len ≡ l.start + length (met_edges (g.S.Source.graph l.source) l.a l.b-iterator.passed))
    × (drop l.len l.clashes ≡ drop l.len l.initial.clashes)
