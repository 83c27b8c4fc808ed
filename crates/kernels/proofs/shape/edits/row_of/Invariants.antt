use Rattle.kernels.specs.Kernels.{paired}
use Rattle.placings.proofs.Rows.{Row}
use Rattle.kernels.proofs.shape.edits.row_of.Given as goal

abbrev pub invariant-loop-j : goal.invariant-loop-j
invariant-loop-j g l = Row (paired (g.S.Source.graph l.source) l.chosen l.i) l.j l.row
