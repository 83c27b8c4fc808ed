-- The members of a mask, one after another.
use Rattle.std.specs.Prelude.{◌≡◌, ℕ, ◌<◌, ◌==◌, true, false, ◌&&◌, not, Option, MatchOption}
use Rattle.finite.specs.Masks.{bit}

-- of m: its least member, and r is left; or it has none
abbrev pub Steps : ℕ → Option ℕ → ℕ → Type 0
Steps m x r = MatchOption x ((m ≡ 0) × (r ≡ 0)) (λ i. (i < 64) × (bit m i ≡ true) × ((j : ℕ) → j < i → bit m j ≡ false) × ((j : ℕ) → bit r j ≡ (bit m j && not (j == i))) × (r < m))
