-- Pictures: what they join, their cliques, and the picture of chosen vertices of a graph.
use Rattle.std.specs.Prelude.{◌≡◌, ℕ, ◌<◌, ◌≤◌, Bool, true, ◌&&◌, List, length, ◌≢◌, nat_lt, slice_index}
use Rattle.finite.specs.Masks.{bit}
use Rattle.graph.specs.Graph.{Graph, clash}
use Rattle.pictures.specs.declared.shape.Picture.{Picture}

-- the mask of the neighbours of i
abbrev pub neighbours : Picture → ℕ → ℕ
neighbours p i = slice_index p.rows i

abbrev pub joined : Picture → ℕ → ℕ → Bool
joined p i j = bit (neighbours p i) j

abbrev pub places : Picture → ℕ
places p = p.count

-- the numbers that pass K are places of p, members of m, and joined to one another
pub record Clique (p : Picture) (m : ℕ) (K : ℕ → Bool) : Type 0 where
  pub placed : (i : ℕ) → K i ≡ true → i < places p
  pub inside : (i : ℕ) → K i ≡ true → bit m i ≡ true
  pub joins : (i j : ℕ) → K i ≡ true → K j ≡ true → (i ≢ j) → joined p i j ≡ true

-- whether the vertices at two places of the list clash
abbrev pub paired : Graph → List ℕ → ℕ → ℕ → Bool
paired g chosen i j = clash g (slice_index chosen i) (slice_index chosen j)

-- p has a place for each chosen vertex, and joins two exactly where their vertices clash
pub record Draws (g : Graph) (chosen : List ℕ) (p : Picture) : Type 0 where
  pub few : length chosen ≤ 64
  pub size : places p ≡ length chosen
  pub joins : (i j : ℕ) → joined p i j ≡ (nat_lt i (length chosen) && (nat_lt j (length chosen) && paired g chosen i j))
