-- The greedy colouring: back through an order, each vertex gets the lowest colour from 1 that no neighbour has.
use Rattle.std.specs.Prelude.{◌≡◌, ℕ, ◌<◌, ◌≤◌, Bool, true, false, not, ◌&&◌, List, length, take, ◌==◌, ◌≢◌, slice_index}
use Rattle.finite.specs.Finite.{count}
use Rattle.graph.specs.Graph.{Graph, held, clash}
use Rattle.degeneracy.specs.Order.{survivors}

-- r is the lowest colour from 1 that no neighbour of x in the set has
pub record Lowest (g : Graph) (s : ℕ → Bool) (col : ℕ → ℕ) (x r : ℕ) : Type 0 where
  pub from_one : 1 ≤ r
  pub free : (b : ℕ) → s b ≡ true → clash g x b ≡ true → col b ≢ r
  pub below : (k : ℕ) → 1 ≤ k → k < r → (b : ℕ) × (s b ≡ true) × (clash g x b ≡ true) × (col b ≡ k)

-- when a vertex gets its colour, those that were removed after it have theirs
pub record IsPlan (g : Graph) (p : List ℕ) (col : ℕ → ℕ) : Type 0 where
  pub each : (i : ℕ) → i < length p → Lowest g (survivors g (take i p)) col (slice_index p i) (col (slice_index p i))
  pub others : (c : ℕ) → c < g.size → held g c ≡ false → col c ≡ 0

-- how many neighbours of x have a colour
unfoldable pub coloured_near : Graph → List ℕ → ℕ → ℕ
coloured_near g paint x = count (λ b. clash g x b && not (slice_index paint b == 0)) g.size
