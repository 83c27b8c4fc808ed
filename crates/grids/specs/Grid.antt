-- What the rows of a small graph keep. A row is a mask.
use Rattle.std.specs.Prelude.{◌≡◌, ℕ, ◌<◌, Bool, true, false, List, slice_index}
use Rattle.finite.specs.Masks.{bit}

-- whether the rows join i to j
abbrev pub linked : List ℕ → ℕ → ℕ → Bool
linked rows i j = bit (slice_index rows i) j

abbrev pub Even : List ℕ → Type 0
Even rows = (i j : ℕ) → linked rows i j ≡ linked rows j i

abbrev pub Loopless : List ℕ → Type 0
Loopless rows = (i : ℕ) → linked rows i i ≡ false

abbrev pub Held : List ℕ → ℕ → Type 0
Held rows n = (i j : ℕ) → linked rows i j ≡ true → j < n
