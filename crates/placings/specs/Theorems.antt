-- What is known of colourings place after place.
use Rattle.std.specs.Prelude.{ℕ, ◌+◌, ◌<◌, ◌≤◌, Bool}
use Rattle.placings.specs.Colours.{Colours, Extends}

-- where the colours given so far are up to `used`, and no colouring goes on with one up to `used + 1` at a place c that has none, none goes on at all
abbrev pub OneNewEnough : Type 0
OneNewEnough =
    (n : ℕ) (E : ℕ → ℕ → Bool) (k c used : ℕ) (given : ℕ → ℕ) → c < n → ((i : ℕ) → i < n → given i ≤ used)
    → ((f : ℕ → ℕ) → Colours n E k f → Extends n f given → f c ≤ used + 1 → ⊥) → (f : ℕ → ℕ) → Colours n E k f → Extends n f given → ⊥
