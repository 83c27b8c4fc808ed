-- Lent mark bytes.
use Rattle.std.specs.Prelude.{◌≡◌, ℕ, ◌<◌, ◌≤◌, cond, List, length, nat_lt, slice_index}

-- there are n marks, each 0
pub record Clear (n : ℕ) (marks : List ℕ) : Type 0 where
  pub fits : n ≤ length marks
  pub zero : (k : ℕ) → k < n → slice_index marks k ≡ 0

-- the first n marks are 0, and those beyond are as they were
abbrev pub Wiped : ℕ → List ℕ → List ℕ → Type 0
Wiped n before after = (k : ℕ) → slice_index after k ≡ cond (nat_lt k n) 0 (slice_index before k)

-- nothing changes
abbrev pub Same : List ℕ → List ℕ → Type 0
Same before after = (k : ℕ) → slice_index after k ≡ slice_index before k
