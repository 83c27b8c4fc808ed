use Rattle.finite.proofs.Masks.{bit_with, one_at}
use Rattle.masks.proofs.with.Goals as goal

pub returns : goal.returns
returns c = rw (one_at c.args.i c.requires) (bit_with c.args.m c.args.i)
