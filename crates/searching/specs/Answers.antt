-- What a search for a clique of a picture answers.
use Rattle.std.specs.Prelude.{ℕ, ◌<◌, ◌≤◌, Bool, Some, None, Option}
use Rattle.finite.specs.Finite.{count}
use Rattle.finite.specs.Masks.{bit}
use Rattle.pictures.specs.Pictures.{Clique}
use Rattle.pictures.specs.declared.shape.Picture.{Picture}

-- no clique inside m has more than n members
abbrev pub AtMost : Picture → ℕ → ℕ → Type 0
AtMost p m n = (K : ℕ → Bool) → Clique p m K → count K 64 ≤ n

-- k is the mask of a largest clique inside m
pub record Largest (p : Picture) (m k : ℕ) : Type 0 where
  pub clique : Clique p m (bit k)
  pub most : AtMost p m (count (bit k) 64)

-- a largest clique inside m where it has more than size members, or else that there is none
abbrev pub Answers : Picture → ℕ → ℕ → Option ℕ → Type 0
Answers p m size None = AtMost p m size
Answers p m size (Some k) = Largest p m k × (size < count (bit k) 64)
