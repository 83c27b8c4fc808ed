use Rattle.finite.proofs.Masks.{ones_count}
use lib.Count.{ones-le}
use Rattle.masks.proofs.size.Goals as goal
use native.Mathlib.Omega.{arith}

pub returns : goal.returns
returns c = record { value = ones_count 64 c.args.m (omega arith); bound = ones-le 64 c.args.m (omega arith) }
