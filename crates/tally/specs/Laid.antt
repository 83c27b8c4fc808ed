-- What a laying has laid.
use Rattle.std.specs.Prelude.{◌≡◌, ℕ, ◌+◌, ◌<◌, ◌≤◌, cond, ◌&&◌, ◌||◌, ◌⊎◌, List, length, take, Some, None, Option, nat_le, nat_lt, slice_index}
use Rattle.graph.specs.declared.edge.Edge.{Edge}
use Rattle.graph.specs.declared.refusal.Part.{Part}
use Rattle.graph.specs.declared.refusal.Refusal.{Refusal}
use Rattle.graph.specs.declared.refusal.Refusal.TheVariants.{OutOfRange, ShortBuffer, BadList, Unordered, Miscounted}
use Rattle.graph.specs.Edges.{edge, latest, above}
use Rattle.rows.specs.Rows.{Sound, FirstBad}
use Rattle.listing.specs.Listing.{row_length, start}
use Rattle.tally.specs.declared.laying.Laying.{Laying}

-- of the rows that the edges es need for n numbers, one behind the other, the laying has filled those of the edges done
pub record Laid (n : ℕ) (es done : List Edge) (t : Laying) : Type 0 where
  pub size : t.n ≡ n
  pub count : t.clashes ≡ length es
  pub last : t.previous ≡ latest done
  pub next : (c : ℕ) → c < n → slice_index t.next c ≡ start es c + row_length done c
  pub left : (c : ℕ) → c < n → slice_index t.left c + row_length done c ≡ row_length es c

-- how a further edge is refused, if it is: short buffer, outside, not smaller first or not above the previous, a full row
unfoldable pub laying : ℕ → List Edge → List Edge → ℕ → ℕ → ℕ → Option Refusal
laying n es done room a b =
    cond (nat_lt room (length es + length es)) (Some ShortBuffer)
    (cond (nat_le n a || nat_le n b) (Some OutOfRange)
    (cond (nat_lt a b && above (latest done) (edge a b))
    (cond (nat_le (row_length es a) (row_length done a) || nat_le (row_length es b) (row_length done b)) (Some Miscounted) None)
    (Some Unordered)))

-- there is room for n + 1 offsets and two neighbours for each edge
pub record Room (n m offsets neighbours : ℕ) : Type 0 where
  pub long : n + 1 ≤ offsets
  pub fits : m + m ≤ neighbours

-- no row has a place left
abbrev pub Full : ℕ → List Edge → List Edge → Type 0
Full n es done = (c : ℕ) → c < n → row_length done c ≡ row_length es c

-- the offsets of the rows
pub record Offsets (n : ℕ) (es : List Edge) (os : List ℕ) : Type 0 where
  pub count : length os ≡ n + 1
  pub starts : (c : ℕ) → c ≤ n → slice_index os c ≡ start es c

-- the offsets are written, with the neighbours they are a list form, and places beyond are as they were
pub record Finished (n : ℕ) (es done : List Edge) (ns before after : List ℕ) : Type 0 where
  pub room : Room n (length es) (length before) (length ns)
  pub full : Full n es done
  pub offsets : Offsets n es (take (n + 1) after)
  pub sound : Sound (take (n + 1) after) (take (length es + length es) ns)
  pub rest : (k : ℕ) → n < k → slice_index after k ≡ slice_index before k

-- the first entry at fault of the list form that would be
pub record Broken (n : ℕ) (es : List Edge) (ns : List ℕ) (part : Part) (index : ℕ) : Type 0 where
  pub offsets : List ℕ
  pub are : Offsets n es offsets
  pub bad : FirstBad offsets (take (length es + length es) ns) part index

-- a buffer is short; or a row has a place left; or the neighbours break the form
abbrev pub Unfinished : ℕ → List Edge → List Edge → List ℕ → ℕ → Refusal → Type 0
Unfinished n es done ns places x =
    ((x ≡ ShortBuffer) × (Room n (length es) places (length ns) → ⊥))
    ⊎ (((x ≡ Miscounted) × Room n (length es) places (length ns) × ((c : ℕ) × (c < n) × (row_length done c < row_length es c)))
    ⊎ (Room n (length es) places (length ns) × Full n es done × ((part : Part) × (index : ℕ) × (x ≡ BadList part index) × Broken n es ns part index)))
