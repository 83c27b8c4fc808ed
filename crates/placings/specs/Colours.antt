-- Colourings of the places below n, of which E tells those that are joined.
use Rattle.std.specs.Prelude.{◌≡◌, ℕ, ◌<◌, ◌≤◌, Bool, true, List, ◌≢◌, slice_index}

-- each place has a colour from 1 to k, joined places different ones
pub record Colours (n : ℕ) (E : ℕ → ℕ → Bool) (k : ℕ) (f : ℕ → ℕ) : Type 0 where
  pub low : (i : ℕ) → i < n → 1 ≤ f i
  pub high : (i : ℕ) → i < n → f i ≤ k
  pub apart : (i j : ℕ) → i < n → j < n → E i j ≡ true → f i ≢ f j

-- what a table holds at each place
abbrev pub at : List ℕ → ℕ → ℕ
at table i = slice_index table i

-- f has the colours that are given so far, 0 where none is
abbrev pub Extends : ℕ → (ℕ → ℕ) → (ℕ → ℕ) → Type 0
Extends n f given = (i : ℕ) → i < n → (given i ≢ 0) → f i ≡ given i
