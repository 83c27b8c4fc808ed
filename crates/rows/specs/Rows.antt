-- A graph as rows of neighbours in one list: row c stands from offset c up to offset c + 1.
use Rattle.std.specs.Prelude.{◌≡◌, ℕ, ◌+◌, ◌-◌, ◌<◌, ◌≤◌, Bool, true, false, ◌&&◌, ◌||◌, List, length, ◌==◌, nat_le, nat_lt, slice_index, slice_index_or}
use Rattle.finite.specs.Finite.{any}
use Rattle.graph.specs.Graph.{Graph, clash}
use Rattle.graph.specs.Edges.{graph_of}
use Rattle.graph.specs.declared.edge.Edge.{Edge}
use Rattle.graph.specs.declared.refusal.Part.TheVariants.{Offsets, Neighbours}
use Rattle.graph.specs.declared.refusal.Part.{Part}
use Rattle.graph.specs.declared.refusal.Refusal.{Refusal}
use Rattle.graph.specs.Refusals.{FormFault}

-- whether b stands at one of the places from f up to t
unfoldable pub among : List ℕ → ℕ → ℕ → ℕ → Bool
among ns f t b = any (λ k. nat_le f k && slice_index ns k == b) t

-- how many rows there are: one fewer than offsets
abbrev pub rows : List ℕ → ℕ
rows os = length os - 1

-- whether b stands in row a
abbrev pub in_row : List ℕ → List ℕ → ℕ → ℕ → Bool
in_row os ns a b = among ns (slice_index os a) (slice_index os (a + 1)) b

-- place k is in row c
pub record AtRow (os : List ℕ) (c k : ℕ) : Type 0 where
  pub row : c < rows os
  pub from : slice_index_or os c 0 ≤ k
  pub to : k < slice_index os (c + 1)

-- row c stands from place f up to place t, within the neighbours
pub record IsRow (os : List ℕ) (total c f t : ℕ) : Type 0 where
  pub row : c < rows os
  pub from : f ≡ slice_index os c
  pub to : t ≡ slice_index os (c + 1)
  pub up : f ≤ t
  pub fits : t ≤ total

-- offset i is there, the first is 0, none is below the one before it, and the last is how many neighbours there are
pub record SoundOffset (os : List ℕ) (total i : ℕ) : Type 0 where
  pub there : i < length os
  pub starts : i ≡ 0 → slice_index os i ≡ 0
  pub rises : 0 < i → slice_index os (i - 1) ≤ slice_index os i
  pub ends : i ≡ rows os → slice_index os i ≡ total
  deriving IsProp as SoundOffset_prop

-- the neighbour at place k, in row c, is a vertex other than c, is above the one before it in its row, and has c in its own row
pub record SoundEntry (os ns : List ℕ) (c k : ℕ) : Type 0 where
  pub below : slice_index_or ns k 0 < rows os
  pub other : slice_index_or ns k 0 ≡ c → ⊥
  pub rises : slice_index_or os c 0 < k → slice_index ns (k - 1) < slice_index ns k
  pub mirror : in_row os ns (slice_index ns k) c ≡ true
  deriving IsProp as SoundEntry_prop

abbrev pub SoundOffsets : List ℕ → ℕ → Type 0
SoundOffsets os total = (i : ℕ) → i ≤ rows os → SoundOffset os total i

abbrev pub SoundEntries : List ℕ → List ℕ → Type 0
SoundEntries os ns = (c k : ℕ) → AtRow os c k → SoundEntry os ns c k

-- the lists may be taken as they stand
pub record Sound (os ns : List ℕ) : Type 0 where
  pub small : rows os ≤ 1024
  pub short : length ns ≤ 32768
  pub offsets : SoundOffsets os (length ns)
  pub entries : SoundEntries os ns
  deriving IsProp as Sound_prop

-- offset i is at fault, and none before it
pub record FirstBadOffset (os : List ℕ) (total i : ℕ) : Type 0 where
  pub within : i ≤ rows os
  pub bad : SoundOffset os total i → ⊥
  pub before : (j : ℕ) → j < i → SoundOffset os total j

-- the offsets are sound, the neighbour at place k is at fault, and none before it
pub record FirstBadEntry (os ns : List ℕ) (k : ℕ) : Type 0 where
  pub offsets : SoundOffsets os (length ns)
  pub row : ℕ
  pub at : AtRow os row k
  pub bad : SoundEntry os ns row k → ⊥
  pub before : (c j : ℕ) → j < k → AtRow os c j → SoundEntry os ns c j

-- each neighbour of row c is sound
abbrev pub SoundRow : List ℕ → List ℕ → ℕ → Type 0
SoundRow os ns c = (k : ℕ) → AtRow os c k → SoundEntry os ns c k

-- the neighbour at place k is the first of row c at fault
pub record FirstBadIn (os ns : List ℕ) (c k : ℕ) : Type 0 where
  pub at : AtRow os c k
  pub bad : SoundEntry os ns c k → ⊥
  pub before : (j : ℕ) → j < k → AtRow os c j → SoundEntry os ns c j

-- more rows than 1,024, or more neighbours than 32,768
abbrev pub big : List ℕ → List ℕ → Bool
big os ns = nat_lt 1024 (rows os) || nat_lt 32768 (length ns)

-- the entry at fault
abbrev pub FirstBad : List ℕ → List ℕ → Part → ℕ → Type 0
FirstBad os ns Offsets i = (big os ns ≡ false) × FirstBadOffset os (length ns) i
FirstBad os ns Neighbours k = (big os ns ≡ false) × FirstBadEntry os ns k

-- why two lists cannot be taken
abbrev pub Misfit : List ℕ → List ℕ → Refusal → Type 0
Misfit os ns = FormFault (big os ns ≡ true) (FirstBad os ns) ⊥

-- which refusal two lists get: for want of memory only where they could be taken
abbrev pub Fault : List ℕ → List ℕ → Refusal → Type 0
Fault os ns = FormFault (big os ns ≡ true) (FirstBad os ns) (Sound os ns)

-- the graph: all numbers below the number of rows are vertices, and a and b are joined where b stands in row a
abbrev pub listed : List ℕ → List ℕ → Graph
listed os ns = record { size = rows os; listed = λ c. true; joined = in_row os ns }

-- the lists are the list form of the graph with n vertices and these edges
pub record Lists (n : ℕ) (es : List Edge) (os ns : List ℕ) : Type 0 where
  pub sound : Sound os ns
  pub size : rows os ≡ n
  pub same : (a b : ℕ) → clash (listed os ns) a b ≡ clash (graph_of n es) a b

-- each place is in a row, so that nothing is left unlooked at
abbrev pub Covered : Type 0
Covered = (os ns : List ℕ) → SoundOffsets os (length ns) → (k : ℕ) → k < length ns → (c : ℕ) × AtRow os c k

-- two lists have one fault at most
pub record OneFault : Type 0 where
  pub offsets : (os : List ℕ) (total i j : ℕ) → FirstBadOffset os total i → FirstBadOffset os total j → i ≡ j
  pub entries : (os ns : List ℕ) (k l : ℕ) → FirstBadEntry os ns k → FirstBadEntry os ns l → k ≡ l
  pub apart : (os ns : List ℕ) (i k : ℕ) → FirstBadOffset os (length ns) i → FirstBadEntry os ns k → ⊥
  pub sound_offsets : (os ns : List ℕ) (i : ℕ) → Sound os ns → FirstBadOffset os (length ns) i → ⊥
  pub sound_entries : (os ns : List ℕ) (k : ℕ) → Sound os ns → FirstBadEntry os ns k → ⊥
