-- Edges one by one, each the smaller end first.
use Rattle.std.specs.Prelude.{◌≡◌, ℕ, zero, suc, ◌<◌, ◌≤◌, Bool, true, false, ◌&&◌, ◌||◌, List, [], ◌∷◌, ◌++◌, map, length, Some, None, Option, ◌==◌, nat_lt}
use Rattle.finite.specs.Finite.{members}
use Rattle.graph.specs.declared.edge.Edge.{Edge}
use Rattle.graph.specs.Graph.{Graph, clash}

abbrev pub edge : ℕ → ℕ → Edge
edge x y = record { a = x; b = y }

-- e comes before f
abbrev pub before : Edge → Edge → Bool
before e f = nat_lt e.a f.a || (e.a == f.a && nat_lt e.b f.b)

abbrev pub latest : List Edge → Option Edge
latest [] = None
latest (e ∷ []) = Some e
latest (e ∷ f ∷ es) = latest (f ∷ es)

abbrev pub above : Option Edge → Edge → Bool
above None f = true
above (Some e) f = before e f

-- each edge lies below n, smaller end first, and above the one before it
abbrev pub Rising : ℕ → Option Edge → List Edge → Type 0
Rising n previous [] = Unit {0}
Rising n previous (e ∷ es) = (e.a < e.b) × (e.b < n) × (above previous e ≡ true) × Rising n (Some e) es

-- n and the edges are a stock: neither is too large, and the edges rise
pub record Good (n : ℕ) (es : List Edge) : Type 0 where
  pub small : n ≤ 1024
  pub few : length es ≤ 16384
  pub rising : Rising n None es

-- whether e has the ends a and b, in either order
abbrev pub ends : Edge → ℕ → ℕ → Bool
ends e a b = (a == e.a && b == e.b) || (a == e.b && b == e.a)

-- whether an edge of the list has the ends a and b
unfoldable pub joins : List Edge → ℕ → ℕ → Bool
joins [] a b = false
joins (e ∷ es) a b = ends e a b || joins es a b

-- the graph with n vertices and these edges
abbrev pub graph_of : ℕ → List Edge → Graph
graph_of n es = record { size = n; listed = λ c. true; joined = joins es }

-- the edges of a graph whose smaller end is a, rising
abbrev pub edges_at : Graph → ℕ → List Edge
edges_at g a = map (edge a) (members (λ b. nat_lt a b && clash g a b) g.size)

-- those whose smaller end is below m, rising
unfoldable pub edges_below : Graph → ℕ → List Edge
edges_below g zero = []
edges_below g (suc m) = edges_below g m ++ edges_at g m

-- the edges of a graph, smaller end first, rising
abbrev pub edge_list : Graph → List Edge
edge_list g = edges_below g g.size
