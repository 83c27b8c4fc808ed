-- The colours of the neighbours, marked in a table.
use Rattle.std.specs.Prelude.{◌≡◌, ℕ, ◌<◌, Bool, true, false, List, length, slice_index, slice_index_or}
use Rattle.graph.specs.Graph.{Graph, clash}

-- the table says of each colour below n whether a neighbour of x has it
pub record Marked (g : Graph) (x : ℕ) (paint : List ℕ) (n : ℕ) (taken : List Bool) : Type 0 where
  pub long : length taken ≡ n
  pub worn : (k : ℕ) → k < n → slice_index_or taken k false ≡ true → (b : ℕ) × (clash g x b ≡ true) × (slice_index paint b ≡ k)
  pub done : (b : ℕ) → clash g x b ≡ true → slice_index paint b < n → slice_index_or taken (slice_index paint b) false ≡ true
