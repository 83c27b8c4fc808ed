use Rattle.finite.proofs.Masks.{bit_minus}
use Rattle.masks.proofs.minus.Goals as goal

pub returns : goal.returns
returns c = bit_minus c.args.a c.args.b
