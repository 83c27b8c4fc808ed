use Rattle.std.proofs.Common.{arith}
use Rattle.grids.proofs.Empty.{get_or-zeros}
use Rattle.stamps.proofs.table.Stamps.new.Goals as goal

pub invariant_of-result : goal.invariant_of-result
invariant_of-result c = record { past = λ k. omega (arith, get_or-zeros 1024 k) }
