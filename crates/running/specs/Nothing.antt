-- The graph without numbers.
use Rattle.std.specs.Prelude.{◌≡◌, Bool, true, false, ◌&&◌, refl}
use Rattle.graph.specs.Graph.{Graph}

abbrev pub nothing : Graph
nothing = record { size = 0; listed = λ _. false; joined = λ _ _. false }

-- whatever the numbers a and b, where x and y say whether they lie below its size
pub no_clash : (x y : Bool) → ((x && false) && ((y && false) && false)) ≡ false
no_clash true y = refl
no_clash false y = refl
