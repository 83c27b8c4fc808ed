use Rattle.std.proofs.Common.{arith}
use Rattle.trying.proofs.Lines.{noes_none, noes_more, noes_all}
use Rattle.trying.proofs.printing.write_tries.Goals as goal

pub loop-k-init : goal.loop-k-init
loop-k-init c = noes_none _ c.args.first

pub loop-k-preserved : goal.loop-k-preserved
loop-k-preserved c = noes_more _ _ _ c.args.first c.loop-k.k (omega arith) c.loop-k.invariant c.in_ok-write_numbers.ensures

pub returns : goal.returns
returns c =
    noes_all _ _ _ c.args.first c.loop-k.k c.args.drives (omega (arith, c.loop-k.auto.k-end c.requires)) c.loop-k.invariant c.in_ok-write_numbers-2.ensures
