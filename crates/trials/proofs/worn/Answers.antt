use Rattle.std.proofs.Common.{inl, inr, arith, rules}
use Rattle.placings.proofs.Words.{gathered_none, gathered_yes, gathered_no, gathered_all}
use Rattle.trials.proofs.worn.Goals as goal
use Rattle.trials.proofs.worn.Goals.{else-base-d-via-then-base-d+else-d-base, else-base-d-via-else-base-d}

pub loop-v-init : goal.loop-v-init
loop-v-init c = search (rules, gathered_none)

pub loop-v-preserved-then-d-base : goal.loop-v-preserved-then-d-base
loop-v-preserved-then-d-base c =
    gathered_yes c.args.members c.args.table.now c.args.from c.args.base c.loop-v.v-iterator.rest c.next.new.self.rest c.in-Some.v c.loop-v.worn c.loop-v.invariant c.in-Some.ensures.steps.1 c.in-Some.ensures.steps.3 c.with-worn.result (omega arith) (omega arith) c.with-worn.ensures

pub loop-v-preserved : goal.loop-v-preserved
loop-v-preserved c =
    gathered_no c.args.members c.args.table.now c.args.from c.args.base c.loop-v.v-iterator.rest c.next.new.self.rest c.in-Some.v c.loop-v.worn c.loop-v.invariant c.in-Some.ensures.steps.1 c.in-Some.ensures.steps.3
    (elim c.else-base-d.branch [
      | else-base-d-via-then-base-d+else-d-base w ↦ inr w.if-d-base.false
      | else-base-d-via-else-base-d w ↦ inl w.if-base-d.false
    ])

pub returns : goal.returns
returns c =
    gathered_all c.args.members c.args.table.now c.args.from c.args.base c.loop-v.v-iterator.rest c.loop-v.worn c.loop-v.invariant c.in-None.ensures.steps.0
