use Rattle.std.proofs.Common.{◌*◌}
use Rattle.kernels.specs.Kernels.{places, joined}
use Rattle.placings.specs.Tries.{Near}
use Rattle.trials.proofs.Task.taken_near.Given as goal

abbrev pub invariant-loop-w : goal.invariant-loop-w
invariant-loop-w l = Near (places l.self.kernel.now) (joined l.self.kernel.now) l.table l.c (64 * l.w) l.base l.taken
