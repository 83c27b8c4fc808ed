-- Vertices taken out one after another, and put back with colours.
use Rattle.std.specs.Prelude.{◌≡◌, ℕ, ◌+◌, ◌<◌, ◌≤◌, Bool, true, false, List, length, take, slice_index}
use Rattle.finite.specs.Finite.{count, has}
use Rattle.graph.specs.Graph.{Graph, inside}
use Rattle.graph.specs.Cliques.{Clique, CliqueOf}
use Rattle.degeneracy.specs.Order.{survivors}
use Rattle.degeneracy.specs.Greedy.{Lowest}

-- each number of the list was a living vertex when it was taken
abbrev pub Taken : Graph → List ℕ → Type 0
Taken g p = (i : ℕ) → i < length p → survivors g (take i p) (slice_index p i) ≡ true

-- each had fewer than t living neighbours when it was taken
pub record Peeled (g : Graph) (t : ℕ) (p : List ℕ) : Type 0 where
  pub taken : Taken g p
  pub few : (i : ℕ) → i < length p → inside g (survivors g (take i p)) (slice_index p i) < t

-- and then no more could be taken: what is left is the t-core
pub record CoreLeft (g : Graph) (t : ℕ) (p : List ℕ) : Type 0 where
  pub peeled : Peeled g t p
  pub stuck : (c : ℕ) → survivors g p c ≡ true → t ≤ inside g (survivors g p) c

-- last taken first, each that was taken has the lowest colour that no neighbour has that was left or put back before it;
-- every other number keeps its colour
pub record IsPutBack (g : Graph) (p : List ℕ) (old col : ℕ → ℕ) : Type 0 where
  pub each : (i : ℕ) → i < length p → Lowest g (survivors g (take (i + 1) p)) col (slice_index p i) (col (slice_index p i))
  pub keeps : (c : ℕ) → has p c ≡ false → col c ≡ old c

-- the list holds each member of the set once, and nothing else
pub record Lists (s : ℕ → Bool) (xs : List ℕ) : Type 0 where
  pub only : (i : ℕ) → i < length xs → s (slice_index xs i) ≡ true
  pub all : (c : ℕ) → s c ≡ true → (i : ℕ) × (i < length xs) × (slice_index xs i ≡ c)
  pub once : (i j : ℕ) → i < length xs → j < length xs → slice_index xs i ≡ slice_index xs j → i ≡ j

-- b is the size of a largest clique
pub record CliqueNumber (g : Graph) (b : ℕ) : Type 0 where
  pub reached : (K : ℕ → Bool) × CliqueOf g K b
  pub most : (K : ℕ → Bool) → Clique g K → count K g.size ≤ b
