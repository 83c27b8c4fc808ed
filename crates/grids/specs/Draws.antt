-- A small graph that is drawn pair by pair: place i with each place below it, for each i in turn.
use Rattle.std.specs.Prelude.{◌≡◌, ℕ, Bool, ◌&&◌, ◌||◌, ◌==◌, nat_lt}

-- whether a and b are both below i, or one is i and the other below j
abbrev pub covered : ℕ → ℕ → ℕ → ℕ → Bool
covered i j a b = (nat_lt a i && nat_lt b i) || ((a == i && nat_lt b j) || (b == i && nat_lt a j))

-- the pairs so far are joined where e says so
abbrev pub Drawn : (ℕ → ℕ → Bool) → (ℕ → ℕ → Bool) → ℕ → ℕ → Type 0
Drawn e joined i j = (a b : ℕ) → joined a b ≡ (covered i j a b && e a b)
