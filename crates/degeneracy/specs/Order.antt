-- The order in which the vertices of a graph are removed, fewest neighbours first.
use Rattle.std.specs.Prelude.{◌≡◌, ℕ, ◌<◌, ◌≤◌, Bool, true, not, ◌&&◌, ◌⊎◌, List, length, take, slice_index}
use Rattle.finite.specs.Finite.{has, Fewest}
use Rattle.graph.specs.Graph.{Graph, held, inside}

-- the vertices that are not in the list
unfoldable pub survivors : Graph → List ℕ → ℕ → Bool
survivors g p c = held g c && not (has p c)

-- how many living neighbours the vertex at place i of the list had when it was removed
unfoldable pub met : Graph → List ℕ → ℕ → ℕ
met g p i = inside g (survivors g (take i p)) (slice_index p i)

-- x is the member of the set with the fewest neighbours in it, the lowest of those
abbrev pub Next : Graph → (ℕ → Bool) → ℕ → Type 0
Next g s x = Fewest s (inside g s) g.size x

pub record IsOrder (g : Graph) (p : List ℕ) : Type 0 where
  pub each : (i : ℕ) → i < length p → Next g (survivors g (take i p)) (slice_index p i)
  pub all : (c : ℕ) → held g c ≡ true → has p c ≡ true

-- m is the largest count met, or 0
pub record IsPeak (g : Graph) (p : List ℕ) (m : ℕ) : Type 0 where
  pub above : (i : ℕ) → i < length p → met g p i ≤ m
  pub reached : (m ≡ 0) ⊎ ((i : ℕ) × (i < length p) × (met g p i ≡ m))
