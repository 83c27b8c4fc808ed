use Rattle.std.proofs.Common.{length}
use Rattle.reading.proofs.Walks.{Walking}
use Rattle.reading.proofs.walk_lines.Given as goal

abbrev pub invariant-loop-more : goal.invariant-loop-more
invariant-loop-more l = Walking l.fn.size l.text l.rest l.at l.walk l.initial.edges l.edges

abbrev pub decreases-loop-more : goal.decreases-loop-more
decreases-loop-more l = length l.rest
