-- A list form and the rising edges of its graph determine each other.
use Rattle.std.proofs.Common.{◌≡◌, ℕ, ◌+◌, ◌<◌, ◌≤◌, Bool, true, ◌&&◌, ltb, List, length, None, sym, refl, ap, ◌∙◌, subst, inl, inr, arith}
use Rattle.std.proofs.lemmas.Bool.{cases_Bool, lt-ltb}
use Rattle.std.proofs.lemmas.Bool.Decides.{nat_tests}
use Rattle.graph.specs.declared.edge.Edge.{Edge}
use Rattle.graph.specs.Graph.{clash}
use Rattle.graph.specs.Edges.{Good, Rising, joins, graph_of, edge_list}
use Rattle.rows.specs.Rows.{rows, Sound, Lists, listed}
use Rattle.rows.proofs.Lawful.{listed_lawful, row_below}
use Rattle.listing.proofs.All.{starts_told}
use Rattle.forms.specs.Forms.{HasEdges, OneForm, OneEdges}
use Rattle.forms.proofs.Same as same
use Rattle.forms.proofs.Rising.{rising_same}
use Rattle.forms.proofs.Edges.{edge_list_rising, edge_list_joins}

-- below n, the graph of some edges has the pairs that they join
pub of_clash : (n : ℕ) (es : List Edge) (a b : ℕ) → a < n → b < n → clash (graph_of n es) a b ≡ joins es a b
of_clash n es a b l m = rw (lt-ltb a n l, lt-ltb b n m) refl

-- the graph of the edges of sound lists is their graph
pub of_edges : (os ns : List ℕ) → Sound os ns → (a b : ℕ) → clash (listed os ns) a b ≡ clash (graph_of (rows os) (edge_list (listed os ns))) a b
of_edges os ns w a b =
    let j = edge_list_joins (listed os ns) (listed_lawful os ns w) a b in
    elim (cases_Bool (clash (listed os ns) a b)) [
      | inl y ↦ let r = row_below os ns a b y in sym (of_clash (rows os) (edge_list (listed os ns)) a b r.0 r.1 ∙ j)
      | inr y ↦ y ∙ sym (ap (λ (v : Bool). ltb a (rows os) && true && (ltb b (rows os) && true && v)) (j ∙ y) ∙ grind (arith, nat_tests))
    ]

pub edges_rise : (os ns : List ℕ) → Sound os ns → Rising (rows os) None (edge_list (listed os ns))
edges_rise os ns w = edge_list_rising (listed os ns) (listed_lawful os ns w)

pub edges_listed : (os ns : List ℕ) → Sound os ns → Lists (rows os) (edge_list (listed os ns)) os ns
edges_listed os ns w = record { sound = w; size = refl; same = of_edges os ns w }

pub has_edges_but : (os ns : List ℕ) → Sound os ns → length (edge_list (listed os ns)) ≤ 16384 → Good (rows os) (edge_list (listed os ns)) × Lists (rows os) (edge_list (listed os ns)) os ns
has_edges_but os ns w l = (record { small = w.small; few = l; rising = edges_rise os ns w }, edges_listed os ns w)

pub one_form : OneForm
one_form = same.one_form

pub one_edges : OneEdges
one_edges n es os ns w v =
    let s = v.sound in
    let z : rows os ≡ n = v.size in
    rising_same n None None es (edge_list (listed os ns)) w.rising (subst (λ (k : ℕ). Rising k None (edge_list (listed os ns))) z (edges_rise os ns s)) (λ a b l m. sym (of_clash n es a b (omega arith) m) ∙ sym (v.same a b) ∙ sym (edge_list_joins (listed os ns) (listed_lawful os ns s) a b))

-- two neighbours for each edge
pub edges_count : (os ns : List ℕ) → Sound os ns → length ns ≡ length (edge_list (listed os ns)) + length (edge_list (listed os ns))
edges_count os ns w =
    (starts_told (rows os) (edge_list (listed os ns)) os ns (edges_rise os ns w) (edges_listed os ns w)).1

pub has_edges : HasEdges
has_edges os ns w = has_edges_but os ns w (omega (arith, edges_count os ns w, w.short))
