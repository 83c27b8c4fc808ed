use lib.Bits.{and_le_l}
use Rattle.finite.proofs.Masks.{bit-bit_and}
use Rattle.masks.proofs.meet.Goals as goal

pub returns : goal.returns
returns c = record { members = bit-bit_and c.args.a c.args.b; bound = and_le_l c.args.a c.args.b }
