use Rattle.std.proofs.Common.{◌≡◌, ℕ, cond, get_or, take}
use Rattle.finite.specs.Finite.{has}
use Rattle.peeling.proofs.tables.revive.Given as goal

abbrev pub invariant-loop-x : goal.invariant-loop-x
invariant-loop-x l = (c : ℕ) → get_or l.living c 0 ≡ cond (has (take l.x-index l.taken) c) 1 (get_or l.initial.living c 0)
