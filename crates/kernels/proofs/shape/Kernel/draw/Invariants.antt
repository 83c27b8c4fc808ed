use Rattle.std.proofs.Common.{length}
use Rattle.kernels.specs.Kernels.{paired}
use Rattle.placings.proofs.Rows.{Rows}
use Rattle.kernels.proofs.shape.Kernel.draw.Given as goal

abbrev pub invariant-loop-i : goal.invariant-loop-i
invariant-loop-i g l = Rows (paired (g.S.Source.graph l.source) l.chosen) (length l.chosen) l.i l.row-items
