-- The edges of one row.
use Rattle.std.specs.Prelude.{ℕ, cond, List, [], ◌∷◌, nat_lt}
use Rattle.graph.specs.declared.edge.Edge.{Edge}
use Rattle.graph.specs.Edges.{edge}

-- an edge from a to each neighbour above it
unfoldable pub upper : ℕ → List ℕ → List Edge
upper a [] = []
upper a (b ∷ bs) = cond (nat_lt a b) (edge a b ∷ upper a bs) (upper a bs)
