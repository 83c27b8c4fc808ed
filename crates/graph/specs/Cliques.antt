-- Cliques of a graph.
use Rattle.std.specs.Prelude.{◌≡◌, ℕ, Bool, true, ◌≢◌}
use Rattle.finite.specs.Finite.{count}
use Rattle.graph.specs.Graph.{Graph, held, clash}

-- the members are vertices, each two of them neighbours
pub record Clique (g : Graph) (K : ℕ → Bool) : Type 0 where
  pub members : (c : ℕ) → K c ≡ true → held g c ≡ true
  pub joins : (a b : ℕ) → K a ≡ true → K b ≡ true → (a ≢ b) → clash g a b ≡ true

-- a clique with b members
pub record CliqueOf (g : Graph) (K : ℕ → Bool) (b : ℕ) : Type 0 where
  pub clique : Clique g K
  pub many : count K g.size ≡ b
