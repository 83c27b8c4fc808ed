use Rattle.peels.proofs.Marks.{Cleared}
use Rattle.putback.proofs.clear.Given as goal

abbrev pub invariant-loop-x : goal.invariant-loop-x
invariant-loop-x l = Cleared l.list l.x-index l.initial.colours l.colours
