-- A list form and the rising edges of its graph determine each other.
use Rattle.std.specs.Prelude.{◌≡◌, ℕ, List}
use Rattle.graph.specs.declared.edge.Edge.{Edge}
use Rattle.graph.specs.Edges.{Good, edge_list}
use Rattle.rows.specs.Rows.{Sound, Lists, listed, rows}

-- sound lists are the list form of the edges of their graph
abbrev pub HasEdges : Type 0
HasEdges =
    (os ns : List ℕ) → Sound os ns
    → Good (rows os) (edge_list (listed os ns)) × Lists (rows os) (edge_list (listed os ns)) os ns

-- edges have one list form
abbrev pub OneForm : Type 0
OneForm =
    (n : ℕ) (es : List Edge) (os ns ps ms : List ℕ) → Lists n es os ns → Lists n es ps ms → (os ≡ ps) × (ns ≡ ms)

-- a list form has one list of rising edges, those of its graph
abbrev pub OneEdges : Type 0
OneEdges = (n : ℕ) (es : List Edge) (os ns : List ℕ) → Good n es → Lists n es os ns → es ≡ edge_list (listed os ns)
