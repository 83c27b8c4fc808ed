-- What is known of the climb.
use Rattle.std.specs.Prelude.{◌≡◌, ℕ, ◌+◌, ◌<◌, ◌≤◌, Bool, List, length}
use Rattle.grids.specs.Largest.{most}
use Rattle.graph.specs.Graph.{Graph, Lawful, held}
use Rattle.degeneracy.specs.Order.{IsOrder, met}
use Rattle.climbing.specs.Climbs.{CliqueNumber, EachOnce, BlockIn, later, later_list, last}

-- inside every set there is a largest clique
abbrev pub SomeLargest : Type 0
SomeLargest = (g : Graph) (s : ℕ → Bool) → Lawful g → (b : ℕ) × CliqueNumber g s b

-- all of which have as many members
abbrev pub OneNumber : Type 0
OneNumber = (g : Graph) (s : ℕ → Bool) (b d : ℕ) → CliqueNumber g s b → CliqueNumber g s d → b ≡ d

-- where each vertex stands in the list once, a largest clique has one member more than a largest among the later
-- neighbours of some vertex, and no fewer than that for any vertex
abbrev pub LaterNeighbours : Type 0
LaterNeighbours = (g : Graph) (p : List ℕ) (w : ℕ → ℕ) → Lawful g → EachOnce g p → ((i : ℕ) → i < length p → CliqueNumber g (later g p i) (w i)) → CliqueNumber g (held g) (most (λ i. w i + 1) (length p))

-- at the start of a climb the block is empty
abbrev pub NoneClimbed : Type 0
NoneClimbed = (g : Graph) (p block : List ℕ) → BlockIn g (last p 0) block 0

-- a largest clique among all of the list is a largest clique of the graph
abbrev pub AllClimbed : Type 0
AllClimbed = (g : Graph) (p block : List ℕ) (b : ℕ) → EachOnce g p → BlockIn g (last p (length p)) block b → BlockIn g (held g) block b

-- a removal order contains each vertex once, and no more later neighbours of a vertex than were met
abbrev pub OrderOnce : Type 0
OrderOnce = (g : Graph) (p : List ℕ) → IsOrder g p → EachOnce g p

abbrev pub OrderFew : Type 0
OrderFew = (g : Graph) (p : List ℕ) (i : ℕ) → IsOrder g p → i < length p → length (later_list g p i) ≤ met g p i
