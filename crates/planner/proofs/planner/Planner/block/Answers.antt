use Rattle.std.proofs.Common.{sym}
use Rattle.planner.proofs.Buffers.{blocks}
use Rattle.planner.proofs.planner.Planner.block.Goals as goal

pub returns : goal.returns
returns g c G h x =
    blocks g.S.Source.graph G h c.args.self.now x c.args.out.now c.write_block.new.out c.write_block.result (sym c.if-not-takes.ensures) c.write_block.ensures
