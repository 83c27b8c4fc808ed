use Rattle.tally.proofs.Starts.{LayingOut}
use Rattle.tally.proofs.state.Tally.totals.Given as goal

abbrev pub invariant-loop-c : goal.invariant-loop-c
invariant-loop-c l = LayingOut l.fn.self.lengths l.next l.sum l.c
