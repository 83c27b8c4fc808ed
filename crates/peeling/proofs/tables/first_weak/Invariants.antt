use Rattle.supports.proofs.Queues.{Queue, lesser}
use Rattle.peeling.proofs.tables.first_weak.Given as goal

abbrev pub invariant-loop-c : goal.invariant-loop-c
invariant-loop-c l = Queue l.n (lesser l.n l.living l.counts l.least l.c) l.initial.taken l.taken 0 l.tail
