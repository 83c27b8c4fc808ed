use Rattle.std.proofs.Common.{arith}
use Rattle.climbing.proofs.Blocks.{never_dense}
use Rattle.climbing.proofs.Tails.{few_tail}
use Rattle.listed_climb.proofs.climb_all.Goals as goal

pub climb_before-requires-clause-few : goal.climb_before-requires-clause-few
climb_before-requires-clause-few g c = few_tail (g.S.Source.graph c.args.source.now) c.args.order.now c.saturating_sub-start.result (omega (arith, c.saturating_sub-start.ensures))

pub returns-in_err-len-clause-succeeds : goal.returns-in_err-len-clause-succeeds
returns-in_err-len-clause-succeeds g c m o k l = absurd (never_dense _ _ m _ o k l c.in_err-len.ensures.cases)
