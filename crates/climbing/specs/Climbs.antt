-- Largest cliques inside a set of vertices, and the climb through a list of the vertices, from its end.
use Rattle.std.specs.Prelude.{◌≡◌, ℕ, ◌+◌, ◌-◌, ◌<◌, ◌≤◌, Bool, true, cond, ◌&&◌, ◌||◌, ◌⊎◌, List, [], ◌∷◌, ◌++◌, length, take, drop, Some, None, Option, ◌==◌, ◌≢◌, nat_lt, slice_index}
use Rattle.finite.specs.Finite.{any, count, has, members}
use Rattle.finite.specs.Masks.{bit}
use Rattle.finite.specs.Supports.{Within}
use Rattle.graph.specs.Graph.{Graph, held, clash}
use Rattle.graph.specs.Cliques.{Clique}
use Rattle.graph.specs.declared.refusal.Refusal.{Refusal}
use Rattle.graph.specs.declared.refusal.Refusal.TheVariants.{OutOfRange, TooDense}
use Rattle.pictures.specs.Pictures.{Draws}
use Rattle.pictures.specs.declared.shape.Picture.{Picture}
use Rattle.searching.specs.Answers.{AtMost, Largest}

-- every clique inside the set has at most b members
abbrev pub AtMostAmong : Graph → (ℕ → Bool) → ℕ → Type 0
AtMostAmong g s b = (K : ℕ → Bool) → Clique g K → Within K s → count K g.size ≤ b

-- K is a clique inside the set, with b members, and none inside it has more
pub record LargestAmong (g : Graph) (s K : ℕ → Bool) (b : ℕ) : Type 0 where
  pub clique : Clique g K
  pub within : Within K s
  pub many : count K g.size ≡ b
  pub most : AtMostAmong g s b

-- a largest clique inside the set has b members
pub record CliqueNumber (g : Graph) (s : ℕ → Bool) (b : ℕ) : Type 0 where
  pub set : ℕ → Bool
  pub largest : LargestAmong g s set b

-- the list contains each vertex once, and nothing else
pub record EachOnce (g : Graph) (p : List ℕ) : Type 0 where
  pub vertex : (i : ℕ) → i < length p → held g (slice_index p i) ≡ true
  pub once : (i j : ℕ) → i < j → j < length p → slice_index p i ≢ slice_index p j
  pub all : (c : ℕ) → held g c ≡ true → has p c ≡ true

-- the set of the last j of the list
abbrev pub last : List ℕ → ℕ → ℕ → Bool
last p j = has (drop (length p - j) p)

-- the neighbours of v in the set
abbrev pub near : Graph → (ℕ → Bool) → ℕ → ℕ → Bool
near g s v c = s c && clash g v c

-- the later neighbours of the vertex at place i
abbrev pub later : Graph → List ℕ → ℕ → ℕ → Bool
later g p i = near g (has (drop (i + 1) p)) (slice_index p i)

-- the numbers of a list that pass, the last first
unfoldable pub backward : (ℕ → Bool) → List ℕ → List ℕ
backward t [] = []
backward t (x ∷ xs) = backward t xs ++ cond (t x) (x ∷ []) []

-- the list of the later neighbours of the vertex at place i, the last first
abbrev pub later_list : Graph → List ℕ → ℕ → List ℕ
later_list g p i = backward (clash g (slice_index p i)) (drop (i + 1) p)

-- what stands in the list at a place of the mask
unfoldable pub picked : List ℕ → ℕ → ℕ → Bool
picked q m c = any (λ i. bit m i && slice_index q i == c) (length q)

-- v and the set
abbrev pub plus : ℕ → (ℕ → Bool) → ℕ → Bool
plus v s c = v == c || s c

-- the first b places hold, rising, a largest clique inside the set
pub record BlockIn (g : Graph) (s : ℕ → Bool) (block : List ℕ) (b : ℕ) : Type 0 where
  pub set : ℕ → Bool
  pub largest : LargestAmong g s set b
  pub front : take b block ≡ members set g.size

-- what the step at place i makes of a block of a members: one of b members, the old one or a larger
pub record Climbs (g : Graph) (p : List ℕ) (i : ℕ) (before after : List ℕ) (a b : ℕ) : Type 0 where
  pub step : (j : ℕ) → EachOnce g p → i + j + 1 ≡ length p → BlockIn g (last p j) before a → BlockIn g (last p (j + 1)) after b
  pub within : i < length p
  pub few : length (later_list g p i) ≤ 63
  pub bound : a ≤ 64 → b ≤ 64
  pub larger : EachOnce g p → ((a < b) ⊎ ((b ≡ a) × (after ≡ before)))

-- there is no place i, or else its vertex has more than 63 later neighbours
abbrev pub StepRefused : Graph → List ℕ → ℕ → Refusal → Type 0
StepRefused g p i x =
    ((x ≡ OutOfRange) × (length p ≤ i)) ⊎ ((x ≡ TooDense) × (i < length p) × (63 < length (later_list g p i)))

-- no vertex from place i on has more than 63 later neighbours
abbrev pub FewLater : Graph → List ℕ → ℕ → Type 0
FewLater g p i = (k : ℕ) → i ≤ k → k < length p → length (later_list g p k) ≤ 63

-- the vertex at some place has more than 63 later neighbours
abbrev pub ClimbRefused : Graph → List ℕ → Refusal → Type 0
ClimbRefused g p x = (x ≡ TooDense) × ((i : ℕ) × (i < length p) × (63 < length (later_list g p i)))

-- a largest clique inside m where it has a members or more, or else that it has fewer
abbrev pub Reaches : Picture → ℕ → ℕ → Option ℕ → Type 0
Reaches pic m a None = (0 < a) × AtMost pic m (a - 1)
Reaches pic m a (Some k) = Largest pic m k × (a ≤ count (bit k) 64)

-- what was found in a picture of the chosen vertices
pub record Searched (g : Graph) (q : List ℕ) (a : ℕ) (r : Option ℕ) : Type 0 where
  pub picture : Picture
  pub mask : ℕ
  pub draws : Draws g q picture
  pub full : (i : ℕ) → bit mask i ≡ nat_lt i (length q)
  pub found : Reaches picture mask a r
