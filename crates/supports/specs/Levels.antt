-- The last level at which something stays.
use Rattle.std.specs.Prelude.{◌≡◌, ℕ, ◌≤◌, Bool, true, List, slice_index}
use Rattle.finite.specs.Supports.{Within, Supported, Largest}
use Rattle.supports.specs.Peel.{alive}

-- s is what stays at k; no set with a member has more support than k, and s has a member where `all` has one
pub record Deepest (sup : (ℕ → Bool) → ℕ → ℕ) (all s : ℕ → Bool) (k : ℕ) : Type 0 where
  pub level : Largest sup k all s
  pub most : (t : ℕ) (u : ℕ → Bool) → Supported sup t all u → (c : ℕ) → u c ≡ true → t ≤ k
  pub some : (c : ℕ) → all c ≡ true → (b : ℕ) × (s b ≡ true)

-- what stays shrinks as the threshold grows
abbrev pub Shrinks : Type 0
Shrinks =
    (sup : (ℕ → Bool) → ℕ → ℕ) (all s u : ℕ → Bool) (t r : ℕ) → t ≤ r → Largest sup t all s → Largest sup r all u → Within u s

-- what stays at a threshold is one set
abbrev pub OneLargest : Type 0
OneLargest =
    (sup : (ℕ → Bool) → ℕ → ℕ) (all s u : ℕ → Bool) (t : ℕ) → Largest sup t all s → Largest sup t all u → (c : ℕ) → s c ≡ u c

-- peeling as deep as something stays, over bytes
pub record DeepestIn (sup : (ℕ → Bool) → ℕ → ℕ) (n : ℕ) (living living' : List ℕ) (k : ℕ) : Type 0 where
  pub deepest : Deepest sup (alive n living) (alive n living') k
  pub lower : (c : ℕ) → slice_index living' c ≤ slice_index living c
  pub rest : (c : ℕ) → n ≤ c → slice_index living' c ≡ slice_index living c
