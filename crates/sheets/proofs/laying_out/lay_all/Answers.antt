use Rattle.std.proofs.Common.{length, take, arith}
use Rattle.sheets.proofs.Lays.{lay_none, lay_never, lay_next, lay_all}
use Rattle.sheets.proofs.laying_out.lay_all.Goals as goal

pub loop-e-init : goal.loop-e-init
loop-e-init c = λ n g w r. lay_none n c.args.edges.now _ _ g w r

pub returns-in_err-lay : goal.returns-in_err-lay
returns-in_err-lay c =
    λ n g w r.
    let s = c.loop-e.invariant n g w r in
    absurd (lay_never n c.args.edges.now c.loop-e.e-index _ _ (length c.loop-e.neighbours) g c.loop-e-test.true (omega (arith, s.same)) (c.in_err-lay.ensures n c.args.edges.now (take c.loop-e.e-index c.args.edges.now) s.laid).0)

pub loop-e-preserved : goal.loop-e-preserved
loop-e-preserved c =
    λ n g w r.
    let s = c.loop-e.invariant n g w r in
    let h = c.in_ok-lay.ensures n c.args.edges.now (take c.loop-e.e-index c.args.edges.now) s.laid in
    lay_next n c.args.edges.now c.loop-e.e-index _ _ _ _ _ _ g c.loop-e-test.true s h.1 h.2

pub returns : goal.returns
returns c = λ n g w r. lay_all n c.args.edges.now c.loop-e.e-index _ _ _ c.loop-e-test.false (c.loop-e.invariant n g w r)
