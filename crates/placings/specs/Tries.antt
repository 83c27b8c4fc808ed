-- The search for a colouring, one place after another: what is known before a step, and what it leaves.
use Rattle.std.specs.Prelude.{◌≡◌, ℕ, ◌+◌, ◌-◌, ◌<◌, ◌≤◌, Bool, true, false, List, length, ◌==◌, ◌≢◌}
use Rattle.finite.specs.Finite.{count}
use Rattle.finite.specs.Masks.{bit}
use Rattle.placings.specs.Colours.{Colours, Extends, at}

-- whether place i has no colour yet
abbrev pub blank : List ℕ → ℕ → Bool
blank table i = at table i == 0

-- the places that have a colour have different ones where they are joined, none above `used`
pub record Ready (n : ℕ) (E : ℕ → ℕ → Bool) (k used : ℕ) (table : List ℕ) : Type 0 where
  pub long : n ≤ length table
  pub apart : (i j : ℕ) → i < n → j < n → E i j ≡ true → (at table i ≢ 0) → at table i ≢ at table j
  pub capped : (i : ℕ) → i < n → at table i ≤ used
  pub few : used ≤ k
  pub behind : used + count (blank table) n ≤ n

-- the table was filled: it holds a colouring, and the places from n on are as they were
pub record Filled (n : ℕ) (E : ℕ → ℕ → Bool) (k : ℕ) (before after : List ℕ) : Type 0 where
  pub colours : Colours n E k (at after)
  pub rest : (i : ℕ) → n ≤ i → at after i ≡ at before i

-- no colouring has the colours of the table, which is as it was
pub record Stuck (n : ℕ) (E : ℕ → ℕ → Bool) (k : ℕ) (before after : List ℕ) : Type 0 where
  pub none : (f : ℕ → ℕ) → Colours n E k f → Extends n f (at before) → ⊥
  pub same : after ≡ before

-- the same where place c has a colour above base, up to top
pub record StuckPast (n : ℕ) (E : ℕ → ℕ → Bool) (k c base top : ℕ) (before after : List ℕ) : Type 0 where
  pub none : (f : ℕ → ℕ) → Colours n E k f → Extends n f (at before) → base < f c → f c ≤ top → ⊥
  pub same : after ≡ before

-- the same where of the 64 colours above base only those that are left are meant
pub record StuckIn (n : ℕ) (E : ℕ → ℕ → Bool) (k c base left top : ℕ) (before after : List ℕ) : Type 0 where
  pub none : (f : ℕ → ℕ) → Colours n E k f → Extends n f (at before) → base < f c → f c ≤ top → (f c ≤ base + 64 → bit left (f c - base - 1) ≡ true) → ⊥
  pub same : after ≡ before

-- the mask m has of the 64 colours above base those of the members, places counted on from `from`
pub record Worn (members : ℕ) (table : List ℕ) (from base m : ℕ) : Type 0 where
  pub some : (j : ℕ) → bit m j ≡ true → (v : ℕ) × (bit members v ≡ true) × (at table (from + v) ≡ base + j + 1)
  pub all : (v j : ℕ) → bit members v ≡ true → j < 64 → at table (from + v) ≡ base + j + 1 → bit m j ≡ true

-- the mask m has of the 64 colours above base those of the places below end, and below n, that are joined to c
pub record Near (n : ℕ) (E : ℕ → ℕ → Bool) (table : List ℕ) (c end base m : ℕ) : Type 0 where
  pub some : (j : ℕ) → bit m j ≡ true → (v : ℕ) × (v < n) × (E c v ≡ true) × (at table v ≡ base + j + 1)
  pub all : (v j : ℕ) → v < n → v < end → E c v ≡ true → j < 64 → at table v ≡ base + j + 1 → bit m j ≡ true

-- each member of the mask m tells one of the 64 colours above base, up to top, that no place has that is joined to c
pub record Left (n : ℕ) (E : ℕ → ℕ → Bool) (table : List ℕ) (c base top m : ℕ) : Type 0 where
  pub within : (j : ℕ) → bit m j ≡ true → j < 64
  pub high : (j : ℕ) → bit m j ≡ true → base + j + 1 ≤ top
  pub free : (j : ℕ) → bit m j ≡ true → (v : ℕ) → v < n → E c v ≡ true → at table v ≢ base + j + 1

-- the mask has all of them
pub record Open (n : ℕ) (E : ℕ → ℕ → Bool) (table : List ℕ) (c base top m : ℕ) : Type 0 where
  pub left : Left n E table c base top m
  pub taken : (j : ℕ) → j < 64 → base + j + 1 ≤ top → bit m j ≡ false → (v : ℕ) × (v < n) × (E c v ≡ true) × (at table v ≡ base + j + 1)

-- what the whole search leaves where it finds a colouring, and where there is none
pub record Found (n : ℕ) (E : ℕ → ℕ → Bool) (k : ℕ) (before after : List ℕ) : Type 0 where
  pub colours : Colours n E k (at after)
  pub rest : (i : ℕ) → n ≤ i → at after i ≡ at before i

pub record Impossible (n : ℕ) (E : ℕ → ℕ → Bool) (k : ℕ) (before after : List ℕ) : Type 0 where
  pub none : (f : ℕ → ℕ) → Colours n E k f → ⊥
  pub same : after ≡ before
