use Rattle.std.proofs.Common.{arith}
use Rattle.peels.proofs.Marks.{cleared_none, cleared_more}
use Rattle.putback.proofs.clear.Goals as goal

pub loop-x-init : goal.loop-x-init
loop-x-init c = cleared_none c.args.list.now c.args.colours.now

pub loop-x-preserved : goal.loop-x-preserved
loop-x-preserved c =
    let i = c.loop-x.x-index in
    cleared_more c.args.list.now i c.args.colours.now c.loop-x.colours c.loop-x-test.true (omega (arith, c.requires i c.loop-x-test.true)) c.loop-x.invariant

pub returns : goal.returns
returns c = let s = c.loop-x.invariant in record { cleared = λ i l. s.done i (omega arith); keeps = s.keeps }
