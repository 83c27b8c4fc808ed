use Rattle.std.proofs.Common.{sym}
use Rattle.planner.proofs.Buffers.{plans}
use Rattle.planner.proofs.planner.Planner.plan.Goals as goal

pub returns : goal.returns
returns g c G h x =
    plans g.S.Source.graph G h c.args.self.now x c.args.rows.now c.write_plan.new.rows c.write_plan.result (sym c.if-not-takes.ensures) c.write_plan.ensures
