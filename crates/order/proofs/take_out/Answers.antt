use Rattle.std.proofs.Common.{◌<◌, get_or, sym, subst, arith}
use Rattle.degeneracy.proofs.Ranks.{Taken, taken_more, taken_all}
use Rattle.graph.proofs.Walks.{next_of, last_of}
use Rattle.order.proofs.take_out.Goals as goal

pub bounds-left-b : goal.bounds-left-b
bounds-left-b g c =
    let n = next_of c.loop-b.invariant.0 c.in-Some.ensures.steps in
    omega (arith, n.is.0, c.requires.fits)

pub overflow_sub-left : goal.overflow_sub-left
overflow_sub-left g c =
    let n = next_of c.loop-b.invariant.0 c.in-Some.ensures.steps in
    let v = c.loop-b.invariant.1 in
    omega (arith, c.requires.living c.in-Some.b n.is.0 n.is.1, v.rest c.in-Some.b n.is.0 n.is.1 (omega (arith, n.is.2)))

pub loop-b-preserved : goal.loop-b-preserved
loop-b-preserved g c =
    let G = g.S.Source.graph c.args.source.now in
    let n = next_of c.loop-b.invariant.0 c.in-Some.ensures.steps in
    let v = c.loop-b.invariant.1 in
    let pos : 0 < get_or c.loop-b.left c.in-Some.b 0 = omega (arith, c.requires.living c.in-Some.b n.is.0 n.is.1, v.rest c.in-Some.b n.is.0 n.is.1 (omega (arith, n.is.2))) in
    (n.here, subst (Taken G c.args.x c.args.left.now _) (sym n.passed) (taken_more G c.args.x c.args.left.now c.loop-b.left c.loop-b.b-iterator.passed c.in-Some.b _ v n.is (omega (arith, c.requires.fits)) (omega arith)))

pub returns : goal.returns
returns g c =
    taken_all (g.S.Source.graph c.args.source.now) c.args.x c.args.left.now c.loop-b.left c.loop-b.b-iterator.passed c.loop-b.invariant.1 (omega (arith, last_of c.loop-b.invariant.0 c.in-None.ensures.steps))
