-- The communities of a graph. A set of edges is a test of pairs.
use Rattle.std.specs.Prelude.{◌≡◌, ℕ, ◌≤◌, Bool, true, ◌&&◌}
use Rattle.finite.specs.Finite.{count}
use Rattle.graph.specs.Graph.{Graph, clash}

-- e is a set of edges in which the two ends of each edge have t or more common neighbours
pub record Tight (g : Graph) (t : ℕ) (e : ℕ → ℕ → Bool) : Type 0 where
  pub within : (a b : ℕ) → e a b ≡ true → clash g a b ≡ true
  pub both : (a b : ℕ) → e a b ≡ e b a
  pub each : (a b : ℕ) → e a b ≡ true → t ≤ count (λ w. e a w && e b w) g.size

-- e is the t-community: the largest such set
pub record CommunityOf (g : Graph) (t : ℕ) (e : ℕ → ℕ → Bool) : Type 0 where
  pub tight : Tight g t e
  pub covers : (d : ℕ → ℕ → Bool) → Tight g t d → (a b : ℕ) → d a b ≡ true → e a b ≡ true

-- the set has an edge
pub record HasEdge (e : ℕ → ℕ → Bool) : Type 0 where
  pub left : ℕ
  pub right : ℕ
  pub edge : e left right ≡ true

-- k is the largest t whose t-community has an edge; a set that is tight at t lies in the t-community
pub record IsCommunityNumber (g : Graph) (k : ℕ) : Type 0 where
  pub set : ℕ → ℕ → Bool
  pub community : CommunityOf g k set
  pub has : HasEdge set
  pub most : (t : ℕ) (e : ℕ → ℕ → Bool) → Tight g t e → HasEdge e → t ≤ k
