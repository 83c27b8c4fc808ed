-- Places put into classes of which none holds two neighbours. A class is a mask.
use Rattle.std.specs.Prelude.{ℕ, zero, suc, ◌^◌, cond, not, List, [], ◌∷◌, ◌==◌, bit_and, bit_or, slice_index}
use Rattle.std.specs.List.{prefix_len}
use Rattle.finite.specs.Masks.{bit}

-- i, whose neighbours are row, goes into the lowest class that holds none of them, or into a new one
unfoldable pub put : ℕ → ℕ → List ℕ → List ℕ
put row i [] = 2 ^ i ∷ []
put row i (c ∷ cs) = cond (bit_and c row == 0) (bit_or c (2 ^ i) ∷ cs) (c ∷ put row i cs)

-- the classes cs after the places of m below n are put in, upward
unfoldable pub walk : List ℕ → ℕ → ℕ → List ℕ → List ℕ
walk rows m zero cs = cs
walk rows m (suc n) cs = cond (bit m n) (put (slice_index rows n) n (walk rows m n cs)) (walk rows m n cs)

-- the classes of the places of m below n
abbrev pub classes : List ℕ → ℕ → ℕ → List ℕ
classes rows m n = walk rows m n []

-- how many classes before the lowest that holds no member of row
abbrev pub fitting : ℕ → List ℕ → ℕ
fitting row cs = prefix_len (λ c. not (bit_and c row == 0)) cs
