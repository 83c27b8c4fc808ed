use Rattle.std.proofs.Common.{◌≡◌, ℕ, Bool, ◌++◌}
use Rattle.climbing.specs.Climbs.{backward}
use Rattle.climb.proofs.gathering.gather.Given as goal

abbrev pub invariant-loop-c : goal.invariant-loop-c
invariant-loop-c g l =
    (t : ℕ → Bool) → ((c : ℕ) (r : Bool) → goal.F-post g l.passes c r → r ≡ t c) → backward t l.xs ≡ l.found.items ++ backward t l.c-iterator.iter.rest.now
