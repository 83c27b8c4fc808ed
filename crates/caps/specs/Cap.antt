-- A bound on the cliques of a graph from its degeneracy and its community number.
use Rattle.std.specs.Prelude.{◌≡◌, ℕ, ◌+◌, ◌<◌, ◌≤◌, min, Bool, cond, ◌⊎◌, List, length, take, drop, slice_index}
use Rattle.graph.specs.declared.edge.Edge.{Edge}
use Rattle.graph.specs.declared.refusal.Refusal.{Refusal}
use Rattle.graph.specs.declared.refusal.Refusal.TheVariants.{ShortBuffer, TooLarge}
use Rattle.graph.specs.Graph.{Graph, vertices}
use Rattle.graph.specs.Edges.{edge_list}
use Rattle.graph.specs.Degeneracy.{IsDegeneracy}
use Rattle.cohesion.specs.Community.{CommunityOf, IsCommunityNumber}
use Rattle.cohesion.specs.Common.{edge_at}

-- how many edges are listed
abbrev pub edge_count : Graph → ℕ
edge_count g = length (edge_list g)

-- r is the smaller of the degeneracy and 1 and of the community number and 2
pub record SmallerBound (g : Graph) (r : ℕ) : Type 0 where
  pub degeneracy : ℕ
  pub number : ℕ
  pub is_degeneracy : IsDegeneracy g degeneracy
  pub is_number : IsCommunityNumber g number
  pub smaller : r ≡ min (degeneracy + 1) (number + 2)

-- r is the bound: 0 without vertices, 1 without edges
pub record IsCap (g : Graph) (r : ℕ) : Type 0 where
  pub empty : vertices g ≡ 0 → r ≡ 0
  pub plain : 0 < vertices g → edge_count g ≡ 0 → r ≡ 1
  pub edged : 0 < edge_count g → SmallerBound g r

-- the edges listed in the first places of a buffer, the rest as it was
pub record EdgesIn (g : Graph) (before after : List Edge) : Type 0 where
  pub fits : edge_count g ≤ length after
  pub edges : take (edge_count g) after ≡ edge_list g
  pub rest : drop (edge_count g) after ≡ drop (edge_count g) before

-- the buffers, before and after: edges, living bytes, marks
pub record CappedIn (g : Graph) (edges edges' : List Edge) (living living' marks marks' : List ℕ) (r : ℕ) : Type 0 where
  pub cap : IsCap g r
  pub listed : EdgesIn g edges edges'
  pub community : (k : ℕ) (e : ℕ → ℕ → Bool) → IsCommunityNumber g k → CommunityOf g k e → (c : ℕ) → c < edge_count g → slice_index living' c ≡ cond (e (edge_at (edge_list g) c).a (edge_at (edge_list g) c).b) 1 0
  pub living_rest : (c : ℕ) → edge_count g ≤ c → slice_index living' c ≡ slice_index living c
  pub clear : (k : ℕ) → k < g.size → slice_index marks' k ≡ 0
  pub marks_rest : (k : ℕ) → g.size ≤ k → slice_index marks' k ≡ slice_index marks k

-- the buffers are long enough, and there are not too many edges
pub record CapFits (g : Graph) (edges living marks : ℕ) : Type 0 where
  pub few : edge_count g ≤ 16384
  pub edges_fit : edge_count g ≤ edges
  pub living_fit : edge_count g ≤ living
  pub marks_fit : g.size ≤ marks

-- there are more than 16,384 edges, or else a buffer is too short
abbrev pub CapRefused : Graph → ℕ → ℕ → ℕ → Refusal → Type 0
CapRefused g edges living marks x =
    ((x ≡ TooLarge) × (16384 < edge_count g)) ⊎ ((x ≡ ShortBuffer) × (edge_count g ≤ 16384) × ((edges < edge_count g) ⊎ ((living < edge_count g) ⊎ (marks < g.size))))
