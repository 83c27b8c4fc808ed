use Rattle.std.proofs.Common.{◌-◌, refl, arith}
use Rattle.std.proofs.lemmas.Result.{err_from_is_err_and}
use Rattle.climbing.proofs.Blocks.{climb_more, climb_all, few_more, few_all, refused_dense, never_dense}
use Rattle.climb.proofs.steps.climb_before.Goals as goal

pub loop-at-preserved : goal.loop-at-preserved
loop-at-preserved g c =
    let G = g.T.Terrain.graph c.args.terrain.now in
    let p = c.args.order.now in
    let e = c.in_ok-len.ensures.cases in
    let inv = c.loop-at.invariant in (
      e.bound inv.0,
      few_more G p c.loop-at.at (omega arith) e.few inv.1,
      climb_more G p c.loop-at.block c.step.new.block c.loop-at.at c.loop-at.len c.in_ok-len.len (omega arith) (omega arith) e inv.2,
    )

pub returns-in_err-len : goal.returns-in_err-len
returns-in_err-len g c =
    let G = g.T.Terrain.graph c.args.terrain.now in
    let order = c.args.order.now in
    let p = err_from_is_err_and c.from_residual.result c.from_residual.ensures.1 in
    let e = refused_dense G order (c.loop-at.at - 1) _ (omega arith) c.in_err-len.ensures.cases.0 in
    rw (p.1, p.2) (record { cases = e; succeeds = λ m o k l. absurd (never_dense G order m _ o k l e) })

pub returns : goal.returns
returns g c =
    let G = g.T.Terrain.graph c.args.terrain.now in
    let p = c.args.order.now in
    let inv = c.loop-at.invariant in
    record {
      cases = (inv.0, few_all G p c.loop-at.at (omega arith) inv.1, climb_all G p c.loop-at.block c.loop-at.at c.loop-at.len (omega arith) inv.2);
      succeeds = λ m o k l. refl;
    }
