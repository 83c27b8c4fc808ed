use Rattle.std.proofs.Common.{sym}
use Rattle.planner.proofs.Pulls.{puts_back}
use Rattle.planner.proofs.planner.Planner.put_back.Goals as goal

pub returns : goal.returns
returns g c G h x =
    puts_back g.S.Source.graph G h c.args.self.now x c.put_back.new.self (sym c.if-not-takes.ensures) c.put_back.ensures.given_up c.put_back.ensures.closed
