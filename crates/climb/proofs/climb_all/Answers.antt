use Rattle.std.proofs.Common.{refl}
use Rattle.climbing.proofs.Blocks.{climb_none, never_dense}
use Rattle.climb.proofs.climb_all.Goals as goal

pub climb_before-requires-clause-block : goal.climb_before-requires-clause-block
climb_before-requires-clause-block g c = climb_none _ _ _ _ refl

pub returns-in_err-len-clause-succeeds : goal.returns-in_err-len-clause-succeeds
returns-in_err-len-clause-succeeds g c m o k l = absurd (never_dense _ _ m _ o k l c.in_err-len.ensures.cases)
