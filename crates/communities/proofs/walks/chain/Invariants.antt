use Rattle.cohesion.proofs.Raises.{Chaining}
use Rattle.communities.proofs.walks.chain.Given as goal

abbrev pub invariant-loop-j : goal.invariant-loop-j
invariant-loop-j l = Chaining l.n l.list l.table l.j
