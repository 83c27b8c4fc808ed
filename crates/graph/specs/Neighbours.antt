-- The neighbours of a vertex, one after another.
use Rattle.std.specs.Prelude.{◌≡◌, ℕ, ◌+◌, ◌-◌, ◌<◌, true, Option, MatchOption}
use Rattle.finite.specs.Finite.{count}
use Rattle.graph.specs.Graph.{Graph, clash, degree}

-- how many neighbours of c are left when the first i are passed
abbrev pub left : Graph → ℕ → ℕ → ℕ
left g c i = degree g c - i

-- from i on: neighbour i is next, and j are passed then; or there is none, and all are passed
abbrev pub Steps : Graph → ℕ → ℕ → Option ℕ → ℕ → Type 0
Steps g c i r j = MatchOption r ((degree g c ≡ i) × (j ≡ i)) (λ b. (b < g.size) × (clash g c b ≡ true) × (count (clash g c) b ≡ i) × (i < degree g c) × (j ≡ i + 1))
