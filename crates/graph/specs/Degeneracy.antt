-- The degeneracy of a graph, and its cores.
use Rattle.std.specs.Prelude.{◌≡◌, ℕ, ◌≤◌, Bool, true, false, ◌⊎◌}
use Rattle.finite.specs.Supports.{Within, Supported, Largest}
use Rattle.graph.specs.Graph.{Graph, held, inside}

-- each set of vertices with a member a has a member with at most d neighbours in the set
abbrev pub Sparse : Graph → ℕ → Type 0
Sparse g d = (s : ℕ → Bool) → Within s (held g) → (a : ℕ) → s a ≡ true → (c : ℕ) × (s c ≡ true) × (inside g s c ≤ d)

-- d is the least such number
pub record IsDegeneracy (g : Graph) (d : ℕ) : Type 0 where
  pub sparse : Sparse g d
  pub least : (e : ℕ) → Sparse g e → d ≤ e

-- s is the t-core: the largest set of vertices in which each has t or more neighbours
abbrev pub CoreOf : Graph → ℕ → (ℕ → Bool) → Type 0
CoreOf g t s = Largest (inside g) t (held g) s

-- some set of vertices has a member, and each member has t or more neighbours in the set
pub record HasCore (g : Graph) (t : ℕ) : Type 0 where
  pub set : ℕ → Bool
  pub member : ℕ
  pub some : set member ≡ true
  pub supported : Supported (inside g) t (held g) set

-- d is the largest t with such a set, or 0 where there is no vertex
pub record IsLargestCore (g : Graph) (d : ℕ) : Type 0 where
  pub reached : HasCore g d ⊎ ((d ≡ 0) × ((c : ℕ) → held g c ≡ false))
  pub most : (t : ℕ) → HasCore g t → t ≤ d
