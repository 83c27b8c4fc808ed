use Rattle.std.proofs.Common.{◌≡◌, ℕ, ◌+◌, cond, get_or, take}
use Rattle.finite.specs.Finite.{has}
use Rattle.peeling.proofs.tables.lower.Given as goal

abbrev pub invariant-loop-x : goal.invariant-loop-x
invariant-loop-x l = (c : ℕ) → get_or l.initial.counts c 0 ≡ get_or l.counts c 0 + cond (has (take l.x-index l.lost) c) 1 0
