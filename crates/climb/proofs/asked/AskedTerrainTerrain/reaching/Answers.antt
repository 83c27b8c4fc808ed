use Rattle.std.proofs.Common.{arith, rules}
use Rattle.climbing.proofs.Blocks.{reaches_any, reaches_more}
use Rattle.climb.proofs.asked.AskedTerrainTerrain.reaching.Goals as goal

pub returns-then-len-eq0 : goal.returns-then-len-eq0
returns-then-len-eq0 g c =
    record {
      picture = c.unwrap-picture.result;
      mask = c.below.result;
      draws = search rules;
      full = c.below.ensures;
      found = rw c.or.ensures (reaches_any _ _ _ _ _ c.if-len-eq0.true c.saturating_sub.ensures c.largest-found.ensures);
    }

pub returns-else-len-eq0 : goal.returns-else-len-eq0
returns-else-len-eq0 g c =
    record {
      picture = c.unwrap-picture.result;
      mask = c.below.result;
      draws = search rules;
      full = c.below.ensures;
      found = reaches_more _ _ _ _ _ (omega (arith, c.if-len-eq0.false)) c.saturating_sub.ensures c.largest-found.ensures;
    }
