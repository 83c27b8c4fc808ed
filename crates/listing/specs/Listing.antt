-- Rows of neighbours laid out edge by edge, one row behind the other.
use Rattle.std.specs.Prelude.{◌≡◌, ℕ, zero, suc, ◌+◌, ◌<◌, ◌≤◌, cond, List, [], ◌∷◌, length, take, None, ◌==◌, slice_index}
use Rattle.graph.specs.declared.edge.Edge.{Edge}
use Rattle.graph.specs.Edges.{Good, Rising}
use Rattle.rows.specs.Rows.{Lists}

-- how many of the edges end at c
abbrev pub row_length : List Edge → ℕ → ℕ
row_length [] c = 0
row_length (e ∷ es) c = cond (c == e.a) 1 0 + cond (c == e.b) 1 0 + row_length es c

-- where row c begins: behind the rows before it
unfoldable pub start : List Edge → ℕ → ℕ
start es zero = 0
start es (suc c) = start es c + row_length es c

-- the neighbours of c, in the order in which the edges bring them
unfoldable pub row_of : List Edge → ℕ → List ℕ
row_of [] c = []
row_of (e ∷ es) c = cond (c == e.a) (e.b ∷ row_of es c) (cond (c == e.b) (e.a ∷ row_of es c) (row_of es c))

-- with room for the rows of es, those of the edges done so far stand at the front of each
pub record LaidRows (n : ℕ) (es done : List Edge) (ns : List ℕ) : Type 0 where
  pub room : start es n ≤ length ns
  pub fits : (c : ℕ) → c < n → row_length done c ≤ row_length es c
  pub filled : (c i : ℕ) → c < n → i < row_length done c → slice_index ns (start es c + i) ≡ slice_index (row_of done c) i

-- once all edges are laid, the rows are the list form of their graph, with where each begins as its offset
abbrev pub AllLaid : Type 0
AllLaid =
    (n : ℕ) (es : List Edge) (os ns : List ℕ) → Good n es → LaidRows n es es ns → length os ≡ n + 1
    → ((c : ℕ) → c ≤ n → slice_index os c ≡ start es c) → Lists n es os (take (length es + length es) ns)

-- and every list form of a graph has these offsets, and two neighbours for each edge
abbrev pub StartsTold : Type 0
StartsTold =
    (n : ℕ) (es : List Edge) (os ns : List ℕ) → Rising n None es → Lists n es os ns
    → ((c : ℕ) → c ≤ n → slice_index os c ≡ start es c) × (length ns ≡ length es + length es)
