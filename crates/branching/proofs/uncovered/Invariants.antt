use Rattle.finite.specs.Masks.{bit}
use Rattle.finite.specs.Supports.{Within}
use Rattle.searching.specs.Cuts.{Cut}
use Rattle.branching.proofs.uncovered.Given as goal

abbrev pub invariant-loop : goal.invariant-loop
invariant-loop l = Within (bit l.left) (bit l.m) × Cut l.p l.m l.left l.counter
