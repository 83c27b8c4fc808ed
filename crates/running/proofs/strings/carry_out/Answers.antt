use Rattle.std.proofs.Common.{arith, take_all, rules}
use Rattle.running.proofs.Matches.{carried_next}
use Rattle.running.proofs.strings.carry_out.Goals as goal

pub loop-call-preserved : goal.loop-call-preserved
loop-call-preserved g c =
    (omega arith, carried_next _ _ _ _ _ _ _ _ _ _ _ c.loop-call-test.true c.loop-call.invariant.1 c.answer-reply.ensures.serves c.push_reserved.ensures.items, c.answer-reply.ensures.matched)

pub returns : goal.returns
returns g c = search (rules, take_all)
