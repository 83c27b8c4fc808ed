use Rattle.searching.proofs.Cuts.{taking_none, taking_more, taking_less}
use Rattle.branching.proofs.but_a_class.Goals as goal

pub loop-free-init : goal.loop-free-init
loop-free-init c = taking_none c.args.p.now c.args.m

pub loop-free-preserved : goal.loop-free-preserved
loop-free-preserved c =
    taking_more _ _ _ _ c.lowest-v.result _ c.without.result c.row.result _ c.loop-free.invariant c.lowest-v.ensures.place c.lowest-v.ensures.member c.without-left.ensures.members c.without.ensures.members c.row.ensures c.minus-free.ensures

pub loop-free-smaller : goal.loop-free-smaller
loop-free-smaller c =
    taking_less c.args.p.now c.args.m c.loop-free.left c.loop-free.free c.lowest-v.result c.without-left.result c.without.result c.row.result c.minus-free.result c.loop-free.invariant c.lowest-v.ensures.place c.lowest-v.ensures.member c.without-left.ensures.members c.without.ensures.members c.row.ensures c.minus-free.ensures
