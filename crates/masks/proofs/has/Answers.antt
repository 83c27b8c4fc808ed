-- A shift and a mask read one place.
use Rattle.finite.proofs.Masks.{bit_test}
use Rattle.masks.proofs.has.Goals as goal

pub returns : goal.returns
returns c = bit_test c.args.m c.args.i
