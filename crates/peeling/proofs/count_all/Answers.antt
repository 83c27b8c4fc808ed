use Rattle.std.proofs.Common.{arith}
use Rattle.supports.proofs.Peels.{alive_below, alive_byte}
use Rattle.peeling.proofs.count_all.Goals as goal

pub returns : goal.returns
returns g c =
    let N = g.P.Peeled.items c.args.pool.now c.args.list.now in
    record {
      counted = λ k y. c.loop-i.invariant.0 k (omega (arith, alive_below N c.args.living.now k y, c.item_count-i-end.ensures)) (alive_byte N c.args.living.now k y);
      same = c.loop-i.invariant.1;
    }
