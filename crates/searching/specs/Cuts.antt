-- Classes of places of which no two are joined, taken from a mask one after another, and what they say of cliques.
use Rattle.std.specs.Prelude.{◌≡◌, ℕ, ◌≤◌, Bool, true, false}
use Rattle.finite.specs.Finite.{count}
use Rattle.finite.specs.Masks.{bit}
use Rattle.pictures.specs.Pictures.{Clique, joined}
use Rattle.pictures.specs.declared.shape.Picture.{Picture}

-- every clique inside m that has no member in b has at most n members
abbrev pub Cut : Picture → ℕ → ℕ → ℕ → Type 0
Cut p m b n = (K : ℕ → Bool) → Clique p m K → ((i : ℕ) → K i ≡ true → bit b i ≡ false) → count K 64 ≤ n

-- no two members of m outside b are joined
abbrev pub Class : Picture → ℕ → ℕ → Type 0
Class p m b =
    (i j : ℕ) → bit m i ≡ true → bit b i ≡ false → bit m j ≡ true → bit b j ≡ false → joined p i j ≡ false
