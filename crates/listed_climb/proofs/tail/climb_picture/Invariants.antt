use Rattle.searching.specs.Climbed.{Climbed}
use Rattle.listed_climb.proofs.tail.climb_picture.Given as goal

abbrev pub invariant-loop-v : goal.invariant-loop-v
invariant-loop-v g l = Climbed l.p l.v l.best.mask l.best.len
