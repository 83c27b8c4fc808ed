-- What is known of cores, communities and the bound.
use Rattle.std.specs.Prelude.{◌≡◌, ℕ, ◌-◌, ◌<◌, ◌≤◌, Bool, true, ◌≢◌}
use Rattle.finite.specs.Supports.{Within}
use Rattle.graph.specs.Graph.{Graph, Lawful}
use Rattle.graph.specs.Cliques.{CliqueOf}
use Rattle.graph.specs.Colourings.{Colourable, ColourableIn}
use Rattle.graph.specs.Degeneracy.{CoreOf}
use Rattle.cohesion.specs.Community.{Tight, CommunityOf, HasEdge, IsCommunityNumber}
use Rattle.caps.specs.Cap.{IsCap}

-- cores shrink as t grows
abbrev pub CoresShrink : Type 0
CoresShrink = (g : Graph) (t r : ℕ) (s u : ℕ → Bool) → t ≤ r → CoreOf g t s → CoreOf g r u → Within u s

-- communities shrink as t grows
abbrev pub CommunitiesShrink : Type 0
CommunitiesShrink =
    (g : Graph) (t r : ℕ) (d e : ℕ → ℕ → Bool) → t ≤ r → CommunityOf g t d → CommunityOf g r e → (a b : ℕ) → e a b ≡ true → d a b ≡ true

-- there is one community number
abbrev pub OneNumber : Type 0
OneNumber = (g : Graph) (j k : ℕ) → IsCommunityNumber g j → IsCommunityNumber g k → j ≡ k

-- there is one bound
abbrev pub OneCap : Type 0
OneCap = (g : Graph) (q r : ℕ) → IsCap g q → IsCap g r → q ≡ r

-- the edges of a clique of k vertices are a set in which two ends have k - 2 common neighbours or more
abbrev pub CliqueCommunity : Type 0
CliqueCommunity =
    (g : Graph) (K : ℕ → Bool) (k : ℕ) → Lawful g → CliqueOf g K k → 1 < k → (e : ℕ → ℕ → Bool) × Tight g (k - 2) e × HasEdge e × ((a b : ℕ) → K a ≡ true → K b ≡ true → (a ≢ b) → e a b ≡ true)

-- every clique has at most as many vertices as the bound
abbrev pub CapBounds : Type 0
CapBounds = (g : Graph) (r k : ℕ) (K : ℕ → Bool) → Lawful g → IsCap g r → CliqueOf g K k → k ≤ r

-- a graph can be coloured with k colours exactly when its t-core can, for t up to k
abbrev pub CoreRule : Type 0
CoreRule =
    (g : Graph) (t k : ℕ) (s : ℕ → Bool) → Lawful g → CoreOf g t s → t ≤ k → (Colourable g k → ColourableIn g s k) × (ColourableIn g s k → Colourable g k)
