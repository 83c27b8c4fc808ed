use Rattle.std.proofs.Common.{sym}
use Rattle.planner.proofs.Steps.{climbs}
use Rattle.planner.proofs.planner.Planner.climb.Goals as goal

pub returns : goal.returns
returns g c G h x =
    climbs g.S.Source.graph G h c.args.self.now x c.climb.result c.climb.new.self (sym c.if-not-takes.ensures) c.climb.ensures
