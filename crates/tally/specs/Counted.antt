-- What a tally has counted.
use Rattle.std.specs.Prelude.{◌≡◌, ℕ, ◌<◌, cond, ◌&&◌, ◌||◌, List, length, Some, None, Option, nat_le, nat_lt, slice_index}
use Rattle.graph.specs.declared.edge.Edge.{Edge}
use Rattle.graph.specs.declared.refusal.Refusal.{Refusal}
use Rattle.graph.specs.declared.refusal.Refusal.TheVariants.{OutOfRange, Unordered, TooLarge}
use Rattle.graph.specs.Edges.{edge, latest, above}
use Rattle.listing.specs.Listing.{row_length}
use Rattle.tally.specs.declared.state.Tally.{Tally}

-- the tally for n numbers has counted these edges
pub record Counted (n : ℕ) (es : List Edge) (t : Tally) : Type 0 where
  pub size : t.n ≡ n
  pub count : t.clashes ≡ length es
  pub last : t.previous ≡ latest es
  pub rows : (c : ℕ) → c < 1024 → slice_index t.lengths c ≡ row_length es c

-- how a further edge is refused, if it is: outside, not smaller first or not above the previous, too many
unfoldable pub counting : ℕ → List Edge → ℕ → ℕ → Option Refusal
counting n es a b =
    cond (nat_le n a || nat_le n b) (Some OutOfRange)
    (cond (nat_lt a b && above (latest es) (edge a b)) (cond (nat_le 16384 (length es)) (Some TooLarge) None) (Some Unordered))
