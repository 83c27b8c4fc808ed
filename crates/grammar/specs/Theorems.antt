-- A sheet states one stock, and the first fault is found exactly where it states none.
use Rattle.std.specs.Prelude.{◌≡◌, ℕ, List}
use Rattle.graph.specs.declared.edge.Edge.{Edge}
use Rattle.graph.specs.Edges.{Good}
use Rattle.grammar.specs.Sheet.{Reads, outcome, states, written}

-- a well-formed sheet is read as what it states
abbrev pub ReadAsStated : Type 0
ReadAsStated = (s : List ℕ) (n : ℕ) (es : List Edge) → Reads s n es → outcome s ≡ states n es

-- and what is read is stated by a well-formed sheet
abbrev pub StatedAsRead : Type 0
StatedAsRead = (s : List ℕ) (n : ℕ) (es : List Edge) → outcome s ≡ states n es → Reads s n es

-- no sheet states two stocks
abbrev pub OneStock : Type 0
OneStock = (s : List ℕ) (n m : ℕ) (es fs : List Edge) → Reads s n es → Reads s m fs → (n ≡ m) × (es ≡ fs)

-- every stock has a sheet
abbrev pub HasSheet : Type 0
HasSheet = (n : ℕ) (es : List Edge) → Good n es → Reads (written n es) n es
