use Rattle.std.proofs.Common.{sym}
use Rattle.planner.proofs.Steps.{hides}
use Rattle.planner.proofs.planner.Planner.hide.Goals as goal

pub returns : goal.returns
returns g c G h x =
    hides g.S.Source.graph G h c.args.self.now x _ c.hide.ensures.below c.loosen.ensures c.args.c (sym c.if-not-takes.ensures) c.in_ok-hide.ensures.answer c.in_ok-hide.ensures.marks
