use Rattle.std.proofs.Common.{sym}
use Rattle.planner.proofs.Steps.{orders}
use Rattle.planner.proofs.planner.Planner.order.Goals as goal

pub returns : goal.returns
returns g c G h x =
    orders g.S.Source.graph G h c.args.self.now x c.order.result c.order.new.self (sym c.if-not-takes.ensures) c.order.ensures
