-- The two-part bound over the answer of a bound below.
use Rattle.std.specs.Prelude.{ℕ, ◌/◌, not, ◌&&◌, nat_lt}
use Rattle.finite.specs.Masks.{bit, mask}
use Rattle.grids.specs.Classes.{classes}
use Rattle.grids.specs.Largest.{reaching, largest}
use Rattle.pictures.specs.Pictures.{joined, places}
use Rattle.pictures.specs.declared.shape.Picture.{Picture}

-- the places of m below half the picture's count, rounded down
abbrev pub lower_part : Picture → ℕ → ℕ
lower_part p m = mask (λ i. bit m i && nat_lt i (places p / 2)) 64

-- the other places of m
abbrev pub upper_part : Picture → ℕ → ℕ
upper_part p m = mask (λ i. (bit m i && nat_lt i (places p)) && not (nat_lt i (places p / 2))) 64

-- the answer below on the neighbours of i in the other part
abbrev pub clique_degree : (Picture → ℕ → ℕ) → Picture → ℕ → ℕ → ℕ
clique_degree answer p other i = answer p (mask (λ j. joined p i j && bit other j) 64)

-- how many classes of the own part contain a clique degree of s or more
abbrev pub part_reaching : (Picture → ℕ → ℕ) → Picture → ℕ → ℕ → ℕ → ℕ
part_reaching answer p own other s = reaching (clique_degree answer p other) (classes p.rows own (places p)) s

-- the largest r + s such that r classes of the lower part contain a clique degree of s or more,
-- and s of the upper part one of r or more
abbrev pub two_part : (Picture → ℕ → ℕ) → Picture → ℕ → ℕ
two_part answer p m =
    largest (part_reaching answer p (lower_part p m) (upper_part p m)) (part_reaching answer p (upper_part p m) (lower_part p m))
