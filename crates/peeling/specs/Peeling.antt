-- The lent buffers of peeling, and when they are refused.
use Rattle.std.specs.Prelude.{◌≡◌, ℕ, ◌<◌, ◌≤◌, ◌⊎◌}
use Rattle.graph.specs.declared.refusal.Refusal.{Refusal}
use Rattle.graph.specs.declared.refusal.Refusal.TheVariants.{ShortBuffer, Unordered, TooLarge}

-- n items with so many marks fit buffers of these lengths
pub record Fits (n room living marks taken : ℕ) : Type 0 where
  pub few : n ≤ 16384
  pub lives : n ≤ living
  pub marked : room ≤ marks
  pub takes : n ≤ taken

-- there are more than 16,384 items, or else a buffer is too short
abbrev pub IsTooLarge : ℕ → ℕ → ℕ → ℕ → ℕ → Refusal → Type 0
IsTooLarge n room living marks taken x =
    ((x ≡ TooLarge) × (16384 < n)) ⊎ ((x ≡ ShortBuffer) × (n ≤ 16384) × ((living < n) ⊎ ((marks < room) ⊎ (taken < n))))

-- or else the list is not as it has to be
abbrev pub PeelRefused : ℕ → ℕ → Type 0 → ℕ → ℕ → ℕ → Refusal → Type 0
PeelRefused n room proper living marks taken x =
    IsTooLarge n room living marks taken x ⊎ ((x ≡ Unordered) × Fits n room living marks taken × (proper → ⊥))

-- the lengths of the tables that peeling works with
pub record Tables (n living counts taken out : ℕ) : Type 0 where
  pub few : n ≤ 16384
  pub lives : n ≤ living
  pub counted : n ≤ counts
  pub takes : n ≤ taken
  pub lost : n ≤ out
