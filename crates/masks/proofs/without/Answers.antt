use native.Mathlib.Omega.{arith}
use Rattle.finite.proofs.Masks.{bit_without, without_less, one_at}
use Rattle.masks.proofs.without.Goals as goal

pub returns : goal.returns
returns c =
    let e = one_at c.args.i c.requires.place in
    record {
      members = rw e (bit_without c.args.m c.args.i c.requires.member);
      less = rw e (without_less 64 c.args.m c.args.i c.requires.place (omega arith) c.requires.member);
    }
