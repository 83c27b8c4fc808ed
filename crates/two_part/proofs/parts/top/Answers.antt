use Rattle.std.proofs.Common.{arith}
use Rattle.grids.proofs.Pairs.{top_turn, top_all}
use Rattle.two_part.specs.TwoPart.{clique_degree}
use Rattle.two_part.proofs.Values.{degree_is}
use Rattle.two_part.proofs.parts.top.Goals as goal

pub loop-i-preserved : goal.loop-i-preserved
loop-i-preserved g c =
    let f = g.B.Bound.answer c.args.bound.now in
    let p = c.args.p.now in
    let s = c.in-Some.ensures.steps in
    top_turn (clique_degree f p c.args.other) c.args.class c.loop-i.i-iterator.rest c.next.new.self.rest c.in-Some.i c.loop-i.best c.bound.result c.max-best.result c.loop-i.invariant s.0 s.1 s.3
    (degree_is f p c.args.other c.in-Some.i c.row.result c.meet.result c.bound.result (omega (arith, s.0)) c.row.ensures c.meet.ensures.members c.bound.ensures)
    c.max-best.ensures

pub returns : goal.returns
returns g c =
    top_all (clique_degree (g.B.Bound.answer c.args.bound.now) c.args.p.now c.args.other) c.args.class c.loop-i.i-iterator.rest c.loop-i.best c.loop-i.invariant c.in-None.ensures.steps.0
