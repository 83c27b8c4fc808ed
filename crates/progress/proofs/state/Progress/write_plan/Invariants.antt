use Rattle.progress.specs.Holds.{paint}
use Rattle.progress.proofs.Writes.{Rowed}
use Rattle.progress.proofs.state.Progress.write_plan.Given as goal

abbrev pub invariant-loop-c : goal.invariant-loop-c
invariant-loop-c g l = Rowed (paint l.self.drives) l.c l.initial.row-items l.row-items
