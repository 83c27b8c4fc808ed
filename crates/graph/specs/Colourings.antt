-- Colourings of a graph, and how many colours one uses.
use Rattle.std.specs.Prelude.{◌≡◌, ℕ, ◌≤◌, Bool, true, not, ◌&&◌, ◌==◌, ◌≢◌}
use Rattle.finite.specs.Finite.{count, any}
use Rattle.graph.specs.Graph.{Graph, held, clash}

-- no two neighbours have one colour
abbrev pub Proper : Graph → (ℕ → ℕ) → Type 0
Proper g col = (a b : ℕ) → clash g a b ≡ true → col a ≢ col b

-- the members of the set have colours from 1 to k, neighbours in it different ones
pub record ColouredIn (g : Graph) (s : ℕ → Bool) (k : ℕ) (col : ℕ → ℕ) : Type 0 where
  pub low : (c : ℕ) → s c ≡ true → 1 ≤ col c
  pub high : (c : ℕ) → s c ≡ true → col c ≤ k
  pub apart : (a b : ℕ) → s a ≡ true → s b ≡ true → clash g a b ≡ true → col a ≢ col b

-- a proper colouring of the whole graph in 1 to k
abbrev pub Coloured : Graph → ℕ → (ℕ → ℕ) → Type 0
Coloured g k col = ColouredIn g (held g) k col

-- some colouring of the set, of the graph
abbrev pub ColourableIn : Graph → (ℕ → Bool) → ℕ → Type 0
ColourableIn g s k = (col : ℕ → ℕ) × ColouredIn g s k col

abbrev pub Colourable : Graph → ℕ → Type 0
Colourable g k = ColourableIn g (held g) k

-- whether c is the lowest vertex of its colour
unfoldable pub leads : Graph → (ℕ → ℕ) → ℕ → Bool
leads g col c = held g c && not (any (λ b. held g b && col b == col c) c)

-- how many different colours occur among the vertices: each is counted at its lowest vertex
unfoldable pub used : Graph → (ℕ → ℕ) → ℕ
used g col = count (leads g col) g.size
