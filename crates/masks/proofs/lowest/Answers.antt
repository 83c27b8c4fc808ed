use Rattle.finite.proofs.Masks.{bit_lowest, lowest_least}
use Rattle.masks.proofs.lowest.Goals as goal
use native.Mathlib.Omega.{arith}

pub returns : goal.returns
returns c = let h = bit_lowest 64 c.args.m c.requires (omega arith) in record { place = h.0; member = h.1; least = lowest_least 64 c.args.m }
