use Rattle.std.proofs.Common.{sym}
use Rattle.planner.proofs.Pulls.{tries}
use Rattle.planner.proofs.planner.Planner.try_floor.Goals as goal

pub returns : goal.returns
returns g c G h x =
    tries g.S.Source.graph G h c.args.self.now x c.try_floor.result c.try_floor.new.self (g.met.S.Source.lawful c.args.self.now.layer.below) (sym c.if-not-takes.ensures) c.try_floor.ensures
