-- The number of each refusal.
use Rattle.std.specs.Prelude.{ℕ}
use Rattle.graph.specs.declared.refusal.Part.{Part}
use Rattle.graph.specs.declared.refusal.Part.TheVariants.{Offsets, Neighbours}
use Rattle.graph.specs.declared.refusal.Refusal.{Refusal}
use Rattle.graph.specs.declared.refusal.Refusal.TheVariants.{OutOfRange, NotSo, OutOfTurn, TooDense, TooWide, NothingPulled, ShortBuffer, BadList, BadLine, Unordered, TooLarge, Miscounted, NoMemory}

abbrev pub part_number : Part → ℕ
part_number Offsets = 0
part_number Neighbours = 1

abbrev pub number : Refusal → ℕ
number OutOfRange = 1
number NotSo = 2
number OutOfTurn = 3
number TooDense = 4
number TooWide = 5
number NothingPulled = 6
number ShortBuffer = 7
number (BadList part index) = 8
number BadLine = 9
number Unordered = 10
number TooLarge = 11
number Miscounted = 12
number NoMemory = 99

-- a form that is filled is refused for its size, for an entry, or for want of memory, and for nothing else
abbrev pub FormFault : Type 0 → (Part → ℕ → Type 0) → Type 0 → Refusal → Type 0
FormFault large bad memory OutOfRange = ⊥
FormFault large bad memory NotSo = ⊥
FormFault large bad memory OutOfTurn = ⊥
FormFault large bad memory TooDense = ⊥
FormFault large bad memory TooWide = ⊥
FormFault large bad memory NothingPulled = ⊥
FormFault large bad memory ShortBuffer = ⊥
FormFault large bad memory (BadList part index) = bad part index
FormFault large bad memory BadLine = ⊥
FormFault large bad memory Unordered = ⊥
FormFault large bad memory TooLarge = large
FormFault large bad memory Miscounted = ⊥
FormFault large bad memory NoMemory = memory
