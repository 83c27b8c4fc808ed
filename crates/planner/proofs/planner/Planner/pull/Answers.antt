use Rattle.std.proofs.Common.{Ok, Err, sym}
use Rattle.std.proofs.lemmas.Result.{err_from_is_err_and}
use Rattle.planner.proofs.Pulls.{pulls}
use Rattle.planner.proofs.planner.Planner.pull.Goals as goal

pub returns-in_err-pull : goal.returns-in_err-pull
returns-in_err-pull g c G h x =
    let e = err_from_is_err_and c.from_residual.result c.from_residual.ensures.1 in
    rw (e.1, e.2) (pulls g.S.Source.graph G h c.args.self.now x (Err c.in_err-pull.field-0.0) c.pull.new.self (sym c.if-not-takes.ensures) c.in_err-pull.ensures)

pub returns : goal.returns
returns g c G h x =
    pulls g.S.Source.graph G h c.args.self.now x (Ok tt) c.pull.new.self (sym c.if-not-takes.ensures) c.in_ok-pull.ensures
