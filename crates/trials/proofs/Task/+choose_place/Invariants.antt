use Rattle.std.proofs.Common.{◌+◌, ◌-◌, ◌*◌, ◌^◌}
use Rattle.finite.specs.Finite.{count}
use Rattle.kernels.specs.Kernels.{places}
use Rattle.placings.specs.Tries.{blank}
use Rattle.trials.proofs.Task.+choose_place.Given as goal

-- places left, then pages of colours left, then colours left
abbrev pub decreases-choose : goal.decreases-choose
decreases-choose l = count (blank l.table.now) (places l.self.now.kernel.now) * 2 ^ 80 + (1024 - l.base) * 2 ^ 64 + l.left

abbrev pub decreases-place : goal.decreases-place
decreases-place l = count (blank l.table.now) (places l.self.now.kernel.now) * 2 ^ 80 + 1025 * 2 ^ 64
