-- The kernel picture.
use Rattle.std.specs.Prelude.{◌≡◌, ℕ, ◌<◌, Bool, List, [], length, slice_index, slice_index_or}
use Rattle.graph.specs.Graph.{Graph, clash}
use Rattle.placings.specs.Rows.{linked}
use Rattle.kernels.specs.declared.shape.Kernel.{Kernel}

abbrev pub places : Kernel → ℕ
places k = k.count

abbrev pub joined : Kernel → ℕ → ℕ → Bool
joined k = linked k.rows

-- the word w of row i: the places from 64 w on that are joined to i
abbrev pub word_at : Kernel → ℕ → ℕ → ℕ
word_at k i w = slice_index (slice_index_or k.rows i []) w

-- whether the vertices at two places of the list clash
abbrev pub paired : Graph → List ℕ → ℕ → ℕ → Bool
paired g chosen i j = clash g (slice_index chosen i) (slice_index chosen j)

-- place i is for the i-th vertex of the list: places are joined as their vertices clash
pub record Draws (g : Graph) (chosen : List ℕ) (k : Kernel) : Type 0 where
  pub size : places k ≡ length chosen
  pub joins : (i j : ℕ) → i < length chosen → j < length chosen → joined k i j ≡ paired g chosen i j
