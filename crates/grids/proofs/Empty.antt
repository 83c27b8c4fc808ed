-- Rows of zeros join nothing.
use Rattle.std.proofs.Common.{◌≡◌, ℕ, zero, suc, false, get_or, replicate, refl, ap, ◌∙◌}
use Rattle.finite.specs.Masks.{bit}
use Rattle.finite.proofs.Masks.{bit_zero}
use Rattle.grids.specs.Grid.{linked}

pub get_or-zeros : (n i : ℕ) → ◌≡◌ {A = ℕ} (get_or (replicate n 0) i 0) 0
get_or-zeros zero i = refl
get_or-zeros (suc n) zero = refl
get_or-zeros (suc n) (suc i) = get_or-zeros n i

pub none_linked : (i j : ℕ) → linked (replicate 64 0) i j ≡ false
none_linked i j = ap (λ (x : ℕ). bit x j) (get_or-zeros 64 i) ∙ bit_zero j
