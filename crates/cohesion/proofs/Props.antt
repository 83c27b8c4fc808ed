-- That a table is chained is a proposition, so that it may stand in a ghost field.
use Rattle.std.proofs.Common.{◌≡◌, ℕ, List, [], ◌∷◌, Some, None, Option}
use mathlib.Core.HLevel.{Π_prop, ×_prop, Unit-prop}
use mathlib.Core.Bool.{Bool-set}
use native.Mathlib.Bridge.{le_prop}
use native.Mathlib.Nat.{ℕ_set}
use Rattle.std.proofs.Props.{props}
use Rattle.graph.specs.declared.edge.Edge.{Edge}
use Rattle.graph.specs.Edges.{Rising}
use Rattle.cohesion.specs.Common.{Listing, Listing_prop, Chained, Chained_prop}

rising_prop : (n : ℕ) (o : Option Edge) (es : List Edge) → IsProp (Rising n o es)
rising_prop n o [] = Unit-prop
rising_prop n o (e ∷ es) = let h = rising_prop n (Some e) es in hlevel (props, h)

listing_prop : (n : ℕ) (es : List Edge) → IsProp (Listing n es)
listing_prop n es = Listing_prop le_prop (rising_prop n None es)

pub chained_prop : (n : ℕ) (es : List Edge) (table : List ℕ) → IsProp (Chained n es table)
chained_prop n es table =
    Chained_prop (listing_prop n es) le_prop le_prop (Π_prop λ _. Π_prop λ _. ℕ_set _ _) (Π_prop λ _. Π_prop λ _. ℕ_set _ _) (Π_prop λ _. Π_prop λ _. ℕ_set _ _)
