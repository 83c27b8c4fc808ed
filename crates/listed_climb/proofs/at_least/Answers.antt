use Rattle.std.proofs.Common.{arith}
use Rattle.climbing.proofs.Blocks.{reaches_any, reaches_more}
use Rattle.listed_climb.proofs.at_least.Goals as goal

pub returns-then-len-eq0 : goal.returns-then-len-eq0
returns-then-len-eq0 g c = rw c.or.ensures (reaches_any _ _ _ _ _ c.if-len-eq0.true c.saturating_sub.ensures c.largest-found.ensures)

pub returns-else-len-eq0 : goal.returns-else-len-eq0
returns-else-len-eq0 g c = reaches_more _ _ _ _ _ (omega (arith, c.if-len-eq0.false)) c.saturating_sub.ensures c.largest-found.ensures
