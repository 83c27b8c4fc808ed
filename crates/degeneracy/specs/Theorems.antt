-- What is known of orders and degeneracy.
use Rattle.std.specs.Prelude.{◌≡◌, ℕ, false, List}
use Rattle.graph.specs.Graph.{Graph, held}
use Rattle.graph.specs.Degeneracy.{IsDegeneracy, IsLargestCore}
use Rattle.degeneracy.specs.Order.{IsOrder, IsPeak}

-- every graph has an order
abbrev pub SomeOrder : Type 0
SomeOrder = (g : Graph) → (p : List ℕ) × (m : ℕ) × IsOrder g p × IsPeak g p m

-- and one only
abbrev pub OneOrder : Type 0
OneOrder = (g : Graph) (p q : List ℕ) → IsOrder g p → IsOrder g q → p ≡ q

-- the largest count met in it is the degeneracy
abbrev pub PeakIsDegeneracy : Type 0
PeakIsDegeneracy = (g : Graph) (p : List ℕ) (m : ℕ) → IsOrder g p → IsPeak g p m → IsDegeneracy g m

abbrev pub OneDegeneracy : Type 0
OneDegeneracy = (g : Graph) (d e : ℕ) → IsDegeneracy g d → IsDegeneracy g e → d ≡ e

-- the degeneracy is the largest t with a t-core that is not empty
abbrev pub DegeneracyIsCore : Type 0
DegeneracyIsCore =
    (g : Graph) (d : ℕ) → (IsDegeneracy g d → IsLargestCore g d) × (IsLargestCore g d → IsDegeneracy g d)

-- a graph without vertices has degeneracy 0
abbrev pub NoneHeld : Type 0
NoneHeld = (g : Graph) → ((c : ℕ) → held g c ≡ false) → IsDegeneracy g 0
