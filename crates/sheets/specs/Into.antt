-- A stock in lent lists.
use Rattle.std.specs.Prelude.{◌≡◌, ℕ, ◌+◌, ◌<◌, ◌≤◌, Bool, ◌||◌, ◌⊎◌, List, [], length, take, nat_lt, slice_index}
use Rattle.graph.specs.declared.edge.Edge.{Edge}
use Rattle.rows.specs.Rows.{Lists}
use Rattle.grammar.specs.Sheet.{Outcome, states, fault, Reads}
use Rattle.lines.specs.declared.Fault.{Fault}
use Rattle.lines.specs.Kept.{told}

-- the list form of the edges stands at the front of the lists, and places beyond are as they were
pub record LaidInto (n : ℕ) (es : List Edge) (os os' ns ns' : List ℕ) : Type 0 where
  pub lists : Lists n es (take (n + 1) os') (take (length es + length es) ns')
  pub offsets : (k : ℕ) → n < k → slice_index os' k ≡ slice_index os k
  pub neighbours : (k : ℕ) → length es + length es ≤ k → slice_index ns' k ≡ slice_index ns k

-- the sheet is well formed, states n and m clashes, and its stock stands in the lists
pub record ReadInto (s : List ℕ) (n m : ℕ) (os os' ns ns' : List ℕ) : Type 0 where
  pub edges : List Edge
  pub reads : Reads s n edges
  pub count : length edges ≡ m
  pub room_offsets : n + 1 ≤ length os
  pub room_neighbours : m + m ≤ length ns
  pub laid : LaidInto n edges os os' ns ns'

-- whether lists of these lengths are too short for a stock
abbrev pub short : ℕ → ℕ → ℕ → List Edge → Bool
short offsets neighbours n es = nat_lt offsets (n + 1) || nat_lt neighbours (length es + length es)

-- the fault that is due, or want of memory where none is due
abbrev pub Unread : Outcome → Fault → Type 0
Unread due f =
    (due ≡ told f) ⊎ ((told f ≡ fault 99 0 0 []) × ((n : ℕ) × (es : List Edge) × (due ≡ states n es)))
