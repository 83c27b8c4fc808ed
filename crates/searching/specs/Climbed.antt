-- A largest clique of the first places of a picture.
use Rattle.std.specs.Prelude.{◌≡◌, ℕ, ◌<◌, ◌≤◌, Bool, true, ◌≢◌}
use Rattle.finite.specs.Finite.{count}
use Rattle.finite.specs.Masks.{bit}
use Rattle.pictures.specs.Pictures.{joined}
use Rattle.pictures.specs.declared.shape.Picture.{Picture}

-- K has places below v only, all joined
pub record Joined (p : Picture) (v : ℕ) (K : ℕ → Bool) : Type 0 where
  pub low : (i : ℕ) → K i ≡ true → i < v
  pub joins : (i j : ℕ) → K i ≡ true → K j ≡ true → (i ≢ j) → joined p i j ≡ true

-- best is a largest clique of the places below v
pub record Climbed (p : Picture) (v best len : ℕ) : Type 0 where
  pub clique : Joined p v (bit best)
  pub size : count (bit best) 64 ≡ len
  pub most : (K : ℕ → Bool) → Joined p v K → count K 64 ≤ len
