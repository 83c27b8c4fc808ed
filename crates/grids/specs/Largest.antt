-- Two lists of classes, a number for each place, and the largest pair of sizes that both allow.
use Rattle.std.specs.Prelude.{◌≡◌, ℕ, zero, suc, ◌+◌, ◌≤◌, max, Bool, true, cond, ◌&&◌, List, length, nat_le, slice_index}
use Rattle.finite.specs.Finite.{any, count}
use Rattle.finite.specs.Masks.{bit}

-- the largest value of f below n, 0 if there is none
unfoldable pub most : (ℕ → ℕ) → ℕ → ℕ
most f zero = 0
most f (suc n) = max (most f n) (f n)

-- whether the class contains a place whose degree is s or more
abbrev pub reaches : (ℕ → ℕ) → ℕ → ℕ → Bool
reaches degree s class = any (λ i. bit class i && nat_le s (degree i)) 64

-- how many classes do
abbrev pub reaching : (ℕ → ℕ) → List ℕ → ℕ → ℕ
reaching degree cs s = count (λ k. reaches degree s (slice_index cs k)) (length cs)

-- u s classes of the one part contain a degree of s or more, w r of the other one of r or more:
-- r in the one and s in the other are allowed
abbrev pub qualifies : (ℕ → ℕ) → (ℕ → ℕ) → ℕ → ℕ → Bool
qualifies u w r s = nat_le r (u s) && nat_le s (w r)

-- x is the largest r + s that qualifies
pub record IsLargest (u w : ℕ → ℕ) (x : ℕ) : Type 0 where
  pub least : (r s : ℕ) → qualifies u w r s ≡ true → r + s ≤ x
  pub reached : (r : ℕ) × (s : ℕ) × (qualifies u w r s ≡ true) × (r + s ≡ x)

-- the largest r + s that qualifies, where at most 64 are allowed in each part
abbrev pub largest : (ℕ → ℕ) → (ℕ → ℕ) → ℕ
largest u w = most (λ s. most (λ r. cond (qualifies u w r s) (r + s) 0) 65) 65

-- how many numbers of a list are s or more
abbrev pub at_least : List ℕ → ℕ → ℕ
at_least ts s = count (λ k. nat_le s (slice_index ts k)) (length ts)

-- the largest degree in a class
abbrev pub top : (ℕ → ℕ) → ℕ → ℕ
top degree class = most (λ i. cond (bit class i) (degree i) 0) 64
