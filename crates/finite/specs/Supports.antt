-- Items, numbered, each with a support: a number counted among the items of a set.
use Rattle.std.specs.Prelude.{◌≡◌, ℕ, ◌≤◌, Bool, true}

-- one set inside another
abbrev pub Within : (ℕ → Bool) → (ℕ → Bool) → Type 0
Within s t = (c : ℕ) → s c ≡ true → t c ≡ true

-- taking items out never raises a support
abbrev pub Falls : ((ℕ → Bool) → ℕ → ℕ) → Type 0
Falls sup = (s t : ℕ → Bool) (c : ℕ) → Within s t → sup s c ≤ sup t c

-- s is a part of `all`, and each item of s has support k or more among s
pub record Supported (sup : (ℕ → Bool) → ℕ → ℕ) (k : ℕ) (all s : ℕ → Bool) : Type 0 where
  pub within : Within s all
  pub each : (c : ℕ) → s c ≡ true → k ≤ sup s c

-- s is the one largest such set
pub record Largest (sup : (ℕ → Bool) → ℕ → ℕ) (k : ℕ) (all s : ℕ → Bool) : Type 0 where
  pub supported : Supported sup k all s
  pub covers : (u : ℕ → Bool) → Supported sup k all u → Within u s
