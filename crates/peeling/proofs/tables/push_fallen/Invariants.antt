use Rattle.supports.proofs.Queues.{Queue, fallen}
use Rattle.peeling.proofs.tables.push_fallen.Given as goal

abbrev pub invariant-loop-x : goal.invariant-loop-x
invariant-loop-x l = Queue l.n (fallen l.lost l.counts l.least l.x-index) l.initial.taken l.taken l.tail l.end
