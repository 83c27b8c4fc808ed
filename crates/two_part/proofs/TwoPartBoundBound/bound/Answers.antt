use Rattle.std.proofs.Common.{arith}
use Rattle.two_part.proofs.Values.{lower_is, upper_is, answer_is}
use Rattle.two_part.proofs.TwoPartBoundBound.bound.Goals as goal

pub returns : goal.returns
returns g c =
    let p = c.args.p.now in
    let u = c.tops-in_u.result in
    let w = c.tops-in_w.result in
    answer_is (g.B.Bound.answer c.args.self.now.0) p c.args.mask c.meet-u.result c.minus-w.result u.items w.items c.largest.result
    (lower_is p c.args.mask c.below-half.result c.count.result c.meet-u.result (omega arith) c.count.ensures.value c.below-half.ensures c.meet-u.ensures.members)
    (upper_is p c.args.mask c.below-half.result c.count.result c.count-2.result c.below.result c.meet.result c.minus-w.result (omega arith) c.count.ensures.value c.count-2.ensures.value c.below-half.ensures c.below.ensures c.meet.ensures.members c.minus-w.ensures)
    c.tops-in_u.ensures c.tops-in_w.ensures (rw (c.deref.ensures.0, c.deref-2.ensures.0) at c.largest.ensures.value)
