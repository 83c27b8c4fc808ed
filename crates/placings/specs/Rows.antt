-- Rows of bits: four words of 64 places to a row.
use Rattle.std.specs.Prelude.{◌≡◌, ℕ, ◌/◌, ◌%◌, ◌<◌, Bool, false, List, [], slice_index, slice_index_or}
use Rattle.finite.specs.Masks.{bit}

-- whether a row has place j
abbrev pub marked : List ℕ → ℕ → Bool
marked row j = bit (slice_index row (j / 64)) (j % 64)

-- whether the rows join i to j
abbrev pub linked : List (List ℕ) → ℕ → ℕ → Bool
linked rows i j = marked (slice_index_or rows i []) j

-- below n, a pair is joined both ways or not at all
abbrev pub Even : ℕ → (ℕ → ℕ → Bool) → Type 0
Even n E = (i j : ℕ) → (i < n) × (j < n) → E i j ≡ E j i

-- below n, nothing is joined to itself
abbrev pub Loopless : ℕ → (ℕ → ℕ → Bool) → Type 0
Loopless n E = (i : ℕ) → i < n → E i i ≡ false
