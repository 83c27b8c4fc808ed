use Rattle.std.proofs.Common.{ℕ, subst, arith}
use Rattle.finite.specs.Masks.{bit}
use Rattle.finite.specs.Supports.{Within}
use Rattle.searching.specs.Cuts.{Cut}
use Rattle.searching.proofs.Cuts.{cut_none, cut_more, cut_weaker}
use Rattle.branching.proofs.uncovered.Goals as goal

pub loop-init : goal.loop-init
loop-init c = ((λ i t. t), cut_none c.args.p.now c.args.m)

pub loop-preserved : goal.loop-preserved
loop-preserved c =
    let e = c.but_a_class-left.ensures in (
      λ i t. c.loop.invariant.0 i (e.within i t),
      cut_more c.args.p.now c.args.m c.loop.left c.but_a_class-left.result c.loop.counter e.apart c.loop.invariant.1,
    )

pub returns : goal.returns
returns c =
    record {
      within = c.loop.invariant.0;
      cut = cut_weaker c.args.p.now c.args.m c.loop.left c.loop.counter c.args.room (omega arith) c.loop.invariant.1;
    }

pub returns-then-left-eq0 : goal.returns-then-left-eq0
returns-then-left-eq0 c =
    record {
      within = subst (λ (x : ℕ). Within (bit x) (bit c.args.m)) c.if-left-eq0.true c.loop.invariant.0;
      cut = subst (λ (x : ℕ). Cut c.args.p.now c.args.m x c.args.room) c.if-left-eq0.true (cut_weaker c.args.p.now c.args.m c.loop.left c.loop.counter c.args.room (omega arith) c.loop.invariant.1);
    }
