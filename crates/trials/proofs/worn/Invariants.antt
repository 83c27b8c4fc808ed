use Rattle.placings.proofs.Words.{Gathered}
use Rattle.trials.proofs.worn.Given as goal

abbrev pub invariant-loop-v : goal.invariant-loop-v
invariant-loop-v l = Gathered l.members l.table l.from l.base l.v-iterator.rest l.worn
