use Rattle.std.proofs.Common.{◌<◌, length, map, ap, ◌∙◌, arith}
use Rattle.std.proofs.lemmas.List.{take_all}
use Rattle.grids.specs.Largest.{top}
use Rattle.two_part.specs.TwoPart.{clique_degree}
use Rattle.two_part.proofs.Values.{tops_are, tops_room, tops_more}
use Rattle.two_part.proofs.parts.tops.Goals as goal

pub push-requires : goal.push-requires
push-requires g c =
    let room : length c.loop-class.tops.items < 64 = tops_room _ _ _ _ c.loop-class.invariant c.loop-class-test.true (omega (arith, ap length c.deref-class-items.ensures.0, c.classes-parted.ensures.bound)) in
    (omega arith, room)

pub loop-class-preserved : goal.loop-class-preserved
loop-class-preserved g c =
    let degree = clique_degree (g.B.Bound.answer c.args.bound.now) c.args.p.now c.args.other in
    let xs = c.deref-class-items.result.now in
    let i = c.loop-class.class-index in
    tops_more (top degree) xs i _ _ _ c.loop-class-test.true c.loop-class.invariant c.push.ensures.items (omega (arith, c.top.ensures))

pub returns : goal.returns
returns g c =
    let degree = clique_degree (g.B.Bound.answer c.args.bound.now) c.args.p.now c.args.other in
    let all = take_all c.loop-class.class-index c.deref-class-items.result.now c.loop-class-test.false in
    tops_are (g.B.Bound.answer c.args.bound.now) c.args.p.now c.args.own c.args.other _ _ (c.deref-class-items.ensures.0 ∙ c.classes-parted.ensures.value) (c.loop-class.invariant ∙ ap (map (top degree)) all)
