-- The common neighbours of the two ends of an edge, over a list of edges of which some live.
use Rattle.std.specs.Prelude.{◌≡◌, ℕ, zero, suc, ◌+◌, ◌<◌, ◌≤◌, Bool, cond, ◌&&◌, ◌||◌, List, length, None, ◌==◌, slice_index, slice_index_or}
use Rattle.finite.specs.Finite.{count, any}
use Rattle.graph.specs.declared.edge.Edge.{Edge}
use Rattle.graph.specs.Edges.{edge, ends, Rising}

-- the edge at a place
abbrev pub edge_at : List Edge → ℕ → Edge
edge_at list j = slice_index_or list j (edge 0 0)

-- whether an edge of the set joins u and w
unfoldable pub linked : List Edge → (ℕ → Bool) → ℕ → ℕ → Bool
linked list s u w = any (λ j. s j && ends (edge_at list j) u w) (length list)

-- how many vertices below n are linked to both u and z
unfoldable pub shared : ℕ → List Edge → (ℕ → Bool) → ℕ → ℕ → ℕ
shared n list s u z = count (λ w. linked list s u w && linked list s z w) n

-- how many vertices below n are linked to both ends of the edge at place i
unfoldable pub common : ℕ → List Edge → (ℕ → Bool) → ℕ → ℕ
common n list s i = shared n list s (edge_at list i).a (edge_at list i).b

-- whether u is an end of the edge
abbrev pub touches : Edge → ℕ → Bool
touches e u = e.a == u || e.b == u

-- the end that is not u
abbrev pub far : Edge → ℕ → ℕ
far e u = cond (e.a == u) e.b e.a

-- one more than the last place before j whose edge has the end u, or 0
unfoldable pub last_at : List Edge → ℕ → ℕ → ℕ
last_at list u zero = 0
last_at list u (suc j) = cond (touches (edge_at list j) u) (suc j) (last_at list u j)

-- the list is rising, and neither it nor n is too large
pub record Listing (n : ℕ) (list : List Edge) : Type 0 where
  pub small : n ≤ 1024
  pub rising : Rising n None list
  deriving IsProp as Listing_prop

-- the table leads from each vertex to its last edge, and from each edge to the one before it at either end
pub record Chained (n : ℕ) (list : List Edge) (table : List ℕ) : Type 0 where
  pub listing : Listing n list
  pub few : length list ≤ 16384
  pub long : 33792 ≤ length table
  pub heads : (u : ℕ) → u < n → slice_index table u ≡ last_at list u (length list)
  pub firsts : (e : ℕ) → e < length list → slice_index table (1024 + e) ≡ last_at list (edge_at list e).a e
  pub seconds : (e : ℕ) → e < length list → slice_index table (17408 + e) ≡ last_at list (edge_at list e).b e
  deriving IsProp as Chained_prop
