use Rattle.std.proofs.Common.{ℕ, ◌-◌, ◌<◌, ◌≤◌, length}
use Rattle.placings.specs.Colours.{Colours}
use Rattle.kernels.specs.Kernels.{places, joined}
use Rattle.trying.proofs.rounds.first_yes.Given as goal

abbrev pub invariant-loop-k : goal.invariant-loop-k
invariant-loop-k l =
    (l.initial.k ≤ l.k) × (places l.kernel ≤ length l.table)
    × ((j : ℕ) → l.initial.k ≤ j → j < l.k → (f : ℕ → ℕ) → Colours (places l.kernel) (joined l.kernel) j f → ⊥)

abbrev pub decreases-loop-k : goal.decreases-loop-k
decreases-loop-k l = 256 - l.k
