use Rattle.std.proofs.Common.{sym}
use Rattle.planner.proofs.Steps.{shows}
use Rattle.planner.proofs.planner.Planner.show.Goals as goal

pub returns : goal.returns
returns g c G h x =
    shows g.S.Source.graph G h c.args.self.now x _ c.show.ensures.below c.loosen.ensures c.args.c (sym c.if-not-takes.ensures) c.in_ok-show.ensures.answer c.in_ok-show.ensures.marks
