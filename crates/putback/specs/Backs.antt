-- What putting back leaves in the colours, and when it is refused.
use Rattle.std.specs.Prelude.{◌≡◌, ℕ, ◌<◌, ◌≤◌, max, Bool, false, ◌⊎◌, List, length, MatchBool, slice_index}
use Rattle.finite.specs.Finite.{has}
use Rattle.graph.specs.declared.refusal.Refusal.{Refusal}
use Rattle.graph.specs.declared.refusal.Refusal.TheVariants.{OutOfRange, ShortBuffer}
use Rattle.graph.specs.Graph.{Graph}
use Rattle.graph.specs.Colourings.{ColouredIn, Coloured}
use Rattle.degeneracy.specs.Order.{survivors}
use Rattle.peels.specs.Peels.{Taken, Peeled, IsPutBack}

-- the colours that a table holds
abbrev pub paint : List ℕ → ℕ → ℕ
paint colours c = slice_index colours c

-- every number of the list is below n, or the one at some place is not
abbrev pub AllBelow : List ℕ → ℕ → Bool → Type 0
AllBelow p n r =
    MatchBool r ((i : ℕ) → i < length p → slice_index p i < n) ((i : ℕ) × (i < length p) × (n ≤ slice_index p i))

-- the list p was taken out, last of all its last number, and is put back
pub record BackIn (g : Graph) (p before after : List ℕ) : Type 0 where
  pub back : Taken g p → IsPutBack g p (paint before) (paint after)
  pub coloured : (t k : ℕ) → Peeled g t p → ColouredIn g (survivors g p) k (paint before) → Coloured g (max k t) (paint after)
  pub keeps : (c : ℕ) → has p c ≡ false → paint after c ≡ paint before c

-- the colours are fewer than the numbers of the graph, or else some number of the list is none of them
abbrev pub BackRefused : ℕ → List ℕ → ℕ → Refusal → Type 0
BackRefused n p room x =
    ((x ≡ ShortBuffer) × (room < n)) ⊎ ((x ≡ OutOfRange) × (n ≤ room) × ((i : ℕ) × (i < length p) × (n ≤ slice_index p i)))

-- each number of the list has the colour of its place, where the list has each number once; the others keep theirs
pub record Laid (xs drives before after : List ℕ) : Type 0 where
  pub laid : ((i j : ℕ) → i < length xs → j < length xs → slice_index xs i ≡ slice_index xs j → i ≡ j) → (i : ℕ) → i < length xs → paint after (slice_index xs i) ≡ slice_index drives i
  pub keeps : (c : ℕ) → has xs c ≡ false → paint after c ≡ paint before c

-- there are fewer drives than numbers, or else some number has no place among the colours
abbrev pub LayRefused : List ℕ → ℕ → ℕ → Refusal → Type 0
LayRefused xs drives room x =
    ((x ≡ ShortBuffer) × (drives < length xs)) ⊎ ((x ≡ OutOfRange) × (length xs ≤ drives) × ((i : ℕ) × (i < length xs) × (room ≤ slice_index xs i)))
