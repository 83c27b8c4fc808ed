use Rattle.finite.specs.Finite.{count}
use Rattle.finite.specs.Masks.{bit}
use Rattle.searching.proofs.Cuts.{Taking}
use Rattle.branching.proofs.but_a_class.Given as goal

abbrev pub invariant-loop-free : goal.invariant-loop-free
invariant-loop-free l = Taking l.p l.m l.left l.free

abbrev pub decreases-loop-free : goal.decreases-loop-free
decreases-loop-free l = count (bit l.free) 64
