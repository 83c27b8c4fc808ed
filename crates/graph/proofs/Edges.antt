-- The last of a list of edges.
use Rattle.std.proofs.Common.{◌≡◌, List, [], ◌∷◌, ◌++◌, Some, None, Option, refl}
use Rattle.graph.specs.declared.edge.Edge.{Edge}
use Rattle.graph.specs.Edges.{latest}

pub latest_push : (es : List Edge) (e : Edge) → latest (es ++ e ∷ []) ≡ Some e
latest_push [] e = refl
latest_push (x ∷ []) e = refl
latest_push (x ∷ y ∷ es) e = latest_push (y ∷ es) e

-- the last of some edges that come after o
abbrev pub last_after : Option Edge → List Edge → Option Edge
last_after o [] = o
last_after o (e ∷ es) = last_after (Some e) es

pub last_latest : (es : List Edge) → last_after None es ≡ latest es
last_latest [] = refl
last_latest (e ∷ []) = refl
last_latest (e ∷ f ∷ es) = last_latest (f ∷ es)
