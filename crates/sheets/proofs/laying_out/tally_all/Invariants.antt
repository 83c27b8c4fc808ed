use Rattle.std.proofs.Common.{take}
use Rattle.graph.specs.Edges.{Good}
use Rattle.tally.specs.Counted.{Counted}
use Rattle.sheets.proofs.laying_out.tally_all.Given as goal

abbrev pub invariant-loop-e : goal.invariant-loop-e
invariant-loop-e l = Good l.n l.edges → Counted l.n (take l.e-index l.edges) l.tally
