-- A line of a letter and numbers.
use Rattle.std.specs.Prelude.{ℕ, List, [], ◌∷◌, ◌++◌, decimal}
use Rattle.std.specs.List.{flat_map}

-- a tab and a number
abbrev pub tabbed : ℕ → List ℕ
tabbed x = 9 ∷ decimal x

-- a letter, a tab before each number, and a line feed
abbrev pub numbers_line : ℕ → List ℕ → List ℕ
numbers_line c xs = c ∷ (flat_map tabbed xs ++ 10 ∷ [])

-- the same of the numbers that some things stand for
abbrev pub line_of : {A : Type 0} → (A → ℕ) → ℕ → List A → List ℕ
line_of value c xs = c ∷ (flat_map (λ x. tabbed (value x)) xs ++ 10 ∷ [])
