use Rattle.std.proofs.Common.{refl, arith}
use Rattle.std.proofs.lemmas.Result.{err_from_is_err_and}
use Rattle.graph.proofs.Graphs.{vertices_le}
use Rattle.progress.proofs.Steps.{order_holds, plan_dense}
use Rattle.progress.proofs.state.Progress.order.Goals as goal

pub returns-in_err-planned : goal.returns-in_err-planned
returns-in_err-planned g c =
    let p = err_from_is_err_and c.from_residual.result c.from_residual.ensures.1 in
    let x = c.in_err-planned.ensures.0 in
    let l = vertices_le (g.S.Source.graph c.args.source.now) in
    let s = (g.met.S.Source.lawful c.args.source.now).small in
    let d = plan_dense (g.S.Source.graph c.args.source.now) _ _ _ (omega arith) (omega arith) x in
    rw (p.1, p.2) (d.0, d.1, refl)

pub returns : goal.returns
returns g c =
    let x = c.in_ok-planned.ensures in
    (order_holds (g.S.Source.graph c.args.source.now) _ c.plan.new.order c.args.self.now.drives _ x.0 x.1 c.front-self.ensures refl c.clear.ensures refl c.standing_with-self.ensures, record { number = _; degeneracy = x.0.ordered.degeneracy; few = x.1 })
