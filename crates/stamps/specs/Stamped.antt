-- A table with a stamp at each neighbour of a vertex.
use Rattle.std.specs.Prelude.{◌≡◌, ℕ, cond, List, slice_index}
use Rattle.graph.specs.Graph.{Graph, clash}

-- at the neighbours of v the stamp, and elsewhere what was there before
abbrev pub Stamped : Graph → ℕ → ℕ → List ℕ → List ℕ → Type 0
Stamped g v s before after = (c : ℕ) → slice_index after c ≡ cond (clash g v c) s (slice_index before c)
