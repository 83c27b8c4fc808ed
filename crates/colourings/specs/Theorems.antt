-- What colours and cliques have to do with each other.
use Rattle.std.specs.Prelude.{◌≡◌, ℕ, ◌-◌, ◌≤◌, Bool}
use Rattle.graph.specs.Graph.{Graph}
use Rattle.graph.specs.Cliques.{CliqueOf}
use Rattle.graph.specs.Colourings.{Proper, Coloured, Colourable, used}

-- a colouring in 1 to k, where 1 to k - 1 do not suffice, uses k different colours
abbrev pub UsesAll : Type 0
UsesAll = (g : Graph) (k : ℕ) (col : ℕ → ℕ) → Coloured g k col → (Colourable g (k - 1) → ⊥) → used g col ≡ k

-- a proper colouring uses at least as many colours as a clique has members
abbrev pub CliqueNeeds : Type 0
CliqueNeeds = (g : Graph) (K : ℕ → Bool) (b : ℕ) (col : ℕ → ℕ) → CliqueOf g K b → Proper g col → b ≤ used g col
