use Rattle.std.proofs.Common.{◌≡◌, length, take, drop}
use Rattle.graph.specs.Edges.{edges_below}
use Rattle.capping.proofs.edges.write_edges.Given as goal

abbrev pub invariant-loop-a : goal.invariant-loop-a
invariant-loop-a g l =
    (take l.len l.clashes ≡ edges_below (g.S.Source.graph l.source) l.a)
    × (l.len ≡ length (edges_below (g.S.Source.graph l.source) l.a))
    × (drop l.len l.clashes ≡ drop l.len l.initial.clashes)
