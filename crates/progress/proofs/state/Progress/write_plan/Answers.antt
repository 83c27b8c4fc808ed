use Rattle.std.proofs.Common.{arith}
use Rattle.progress.specs.Holds.{paint}
use Rattle.progress.proofs.Writes.{rowed_none, rowed_more}
use Rattle.progress.proofs.state.Progress.write_plan.Goals as goal

pub loop-c-init : goal.loop-c-init
loop-c-init g c = rowed_none _ _

pub loop-c-preserved : goal.loop-c-preserved
loop-c-preserved g c =
    rowed_more (paint c.args.self.now.drives) c.loop-c.c _ _ c.loop-c.row-items (omega arith) (omega (arith, c.loop-c.auto.row-items, c.loop-c-test.true)) c.loop-c.invariant
