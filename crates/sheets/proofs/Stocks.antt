-- A sheet whose lines are fine, and the lists for its stock.
use Rattle.std.proofs.Common.{◌≡◌, ℕ, ◌+◌, ◌<◌, ◌≤◌, Bool, true, false, cond, ltb, ◌⊎◌, List, [], length, take, sym, ap, ◌∙◌, subst, inl, inr, arith}
use Rattle.std.proofs.lemmas.List.{take_all}
use Rattle.std.proofs.lemmas.Bool.{lt-ltb, le-ltb, or_left, or_right, or_from, both_ways}
use Rattle.graph.specs.declared.edge.Edge.{Edge}
use Rattle.graph.specs.declared.refusal.Refusal.{Refusal}
use Rattle.graph.specs.declared.refusal.Refusal.TheVariants.{ShortBuffer, NoMemory}
use Rattle.graph.specs.Edges.{Good, edge_list}
use Rattle.graph.specs.Refusals.{number}
use Rattle.graph.proofs.Refusals.{form_fault_memory, number_memory}
use Rattle.rows.specs.Rows.{Sound, Lists, FirstBad, Fault as Fits, big, listed, rows}
use Rattle.rows.proofs.Judged.{big_no}
use Rattle.grammar.specs.Sheet.{states, fault, outcome, limit, written, Reads}
use Rattle.grammar.proofs.Forth.{reads_states, reads_one, written_reads}
use Rattle.grammar.proofs.Back.{states_both}
use Rattle.lines.specs.declared.Fault.{Fault}
use Rattle.lines.specs.Kept.{line_of, field_of, shown_of, told, Unplaced}
use Rattle.reading.specs.Read.{Stated, ReadInto as EdgesInto}
use Rattle.forms.proofs.Forms.{has_edges, one_form, one_edges}
use Rattle.sheets.specs.Into.{short, Unread, LaidInto, ReadInto}
use Rattle.sheets.specs.Loaded.{Loaded, Rewritten}
use Rattle.sheets.proofs.Lays.{not_bad}

pub unplaced_told : (x : Refusal) (f : Fault) → Unplaced x f → told f ≡ fault (number x) 0 0 []
unplaced_told x f u =
    ap (λ (y : Refusal). fault (number y) (line_of f.place) (field_of f.place) (shown_of f.place)) u.refusal ∙ ap (λ o. fault (number x) (line_of o) (field_of o) (shown_of o)) u.place

pub stated_outcome : (s : List ℕ) (n m : ℕ) (w : Stated s n m) → outcome s ≡ states n w.edges
stated_outcome s n m w = reads_states s n w.edges w.reads

pub unread_short : (s : List ℕ) (n m places room : ℕ) (f : Fault) → Stated s n m → (places < n + 1) ⊎ (room < m + m) → Unplaced ShortBuffer f → Unread (limit (short places room) (outcome s)) f
unread_short s n m places room f w h u =
    let es = w.edges in
    let k = w.count in
    let y : short places room n es ≡ true = elim h [ inl x ↦ or_left (ltb places (n + 1)) (ltb room (length es + length es)) (lt-ltb places (n + 1) x) | inr x ↦ or_right (ltb places (n + 1)) (ltb room (length es + length es)) (lt-ltb room (length es + length es) (omega arith)) ] in
    inl (ap (limit (short places room)) (stated_outcome s n m w) ∙ ap (λ (v : Bool). cond v (fault 7 0 0 []) (states n es)) y ∙ sym (unplaced_told ShortBuffer f u))

pub fits_states : (s : List ℕ) (n m places room : ℕ) (w : Stated s n m) → n + 1 ≤ places → m + m ≤ room → limit (short places room) (outcome s) ≡ states n w.edges
fits_states s n m places room w l r =
    let es = w.edges in
    let k = w.count in
    let y : short places room n es ≡ false = or_from (ltb places (n + 1)) (ltb room (length es + length es)) (le-ltb places (n + 1) l) (le-ltb room (length es + length es) (omega arith)) in
    ap (limit (short places room)) (stated_outcome s n m w) ∙ ap (λ (v : Bool). cond v (fault 7 0 0 []) (states n es)) y

pub unread_memory : (s : List ℕ) (n m places room : ℕ) (f : Fault) → Stated s n m → n + 1 ≤ places → m + m ≤ room → Unplaced NoMemory f → Unread (limit (short places room) (outcome s)) f
unread_memory s n m places room f w l r u =
    inr (unplaced_told NoMemory f u, (n, w.edges, fits_states s n m places room w l r))

pub unread_line : (s : List ℕ) (places room : ℕ) (f : Fault) → outcome s ≡ told f → Unread (limit (short places room) (outcome s)) f
unread_line s places room f e = inl (ap (limit (short places room)) e)

-- there is room for the edges
pub edges_fit : (s : List ℕ) (n m room : ℕ) (f : Fault) → Stated s n m → m ≤ room → limit (λ _ es. ltb room (length es)) (outcome s) ≡ told f → ⊥
edges_fit s n m room f w l e =
    let k = w.count in
    let q : limit (λ _ es. ltb room (length es)) (outcome s) ≡ states n w.edges = ap (limit (λ _ es. ltb room (length es))) (stated_outcome s n m w) ∙ ap (λ (v : Bool). cond v (fault 7 0 0 []) (states n w.edges)) (le-ltb room (length w.edges) (omega arith)) in
    let z : ◌≡◌ {A = ℕ} 0 1 = cc in omega arith

-- the edges that were read are those that the sheet states
pub edges_are : (s : List ℕ) (n m p q : ℕ) (before after : List Edge) (w : Stated s n m) → EdgesInto s p q before after → length after ≡ m → after ≡ w.edges
edges_are s n m p q before after w r l =
    let one = reads_one s p n (take q after) w.edges r.reads w.reads in
    let a = ap length one.1 in
    let b = r.count in
    let k = w.count in
    sym (take_all q after (omega arith)) ∙ one.1

pub read_into : (s : List ℕ) (n m : ℕ) (os os' ns ns' : List ℕ) (es : List Edge) (w : Stated s n m) → es ≡ w.edges → n + 1 ≤ length os → m + m ≤ length ns → (Good n es → n + 1 ≤ length os → length es + length es ≤ length ns → LaidInto n es os os' ns ns') → ReadInto s n m os os' ns ns'
read_into s n m os os' ns ns' es w e l r f =
    let q = subst (Reads s n) (sym e) w.reads in
    let k : length es ≡ m = ap length e ∙ w.count in
    record { edges = es; reads = q; count = k; room_offsets = l; room_neighbours = r; laid = f q.good l (omega arith) }

pub never_refused : (s : List ℕ) (n m : ℕ) (os ns : List ℕ) (es : List Edge) (w : Stated s n m) → es ≡ w.edges → n + 1 ≤ length os → m + m ≤ length ns → (Good n es → n + 1 ≤ length os → length es + length es ≤ length ns → ⊥) → ⊥
never_refused s n m os ns es w e l r f =
    let q = subst (Reads s n) (sym e) w.reads in
    let k : length es ≡ m = ap length e ∙ w.count in
    f q.good l (omega arith)

pub load_memory : (s : List ℕ) (n m : ℕ) (f : Fault) → Stated s n m → Unplaced NoMemory f → Unread (outcome s) f
load_memory s n m f w u = inr (unplaced_told NoMemory f u, (n, w.edges, stated_outcome s n m w))

-- with room for the stock
pub load_unread : (s : List ℕ) (n m places room : ℕ) (f : Fault) → Stated s n m → n + 1 ≤ places → m + m ≤ room → Unread (limit (short places room) (outcome s)) f → Unread (outcome s) f
load_unread s n m places room f w l r u =
    subst (λ o. Unread o f) (fits_states s n m places room w l r ∙ sym (stated_outcome s n m w)) u

pub loads : (s : List ℕ) (n m p q : ℕ) (os os' ns ns' xs ys : List ℕ) → Stated s n m → ReadInto s p q os os' ns ns' → length os' ≡ n + 1 → length ns' ≡ m + m → xs ≡ os' → ys ≡ ns' → Loaded s xs ys
loads s n m p q os os' ns ns' xs ys w r k l e f =
    let one = reads_one s p n r.edges w.edges r.reads w.reads in
    let a = one.0 in
    let b = ap length one.1 in
    let d = w.count in
    let os-is : take (p + 1) os' ≡ xs = take_all (p + 1) os' (omega arith) ∙ sym e in
    let ns-is : take (length r.edges + length r.edges) ns' ≡ ys = take_all (length r.edges + length r.edges) ns' (omega arith) ∙ sym f in
    record {
      size = p;
      edges = r.edges;
      reads = r.reads;
      lists = subst (Lists p r.edges xs) ns-is (subst (λ zs. Lists p r.edges zs (take (length r.edges + length r.edges) ns')) os-is r.laid.lists);
    }

pub loads_memory : (s os ns : List ℕ) (x : Refusal) → Loaded s os ns → Fits os ns x → x ≡ NoMemory
loads_memory s os ns x w f =
    let h = w.lists.sound in
    let b = big_no os ns (omega (arith, h.small)) h.short in
    form_fault_memory (big os ns ≡ true) (Sound os ns) (FirstBad os ns) x (λ y. both_ways (big os ns) b y) (λ part k z. not_bad os ns part k h z) f

-- a list form that was loaded, written again
pub rewrites : (s os ns t : List ℕ) → Loaded s os ns → t ≡ written (rows os) (edge_list (listed os ns)) → Rewritten s t
rewrites s os ns t w e =
    let n = w.size in
    let es = w.edges in
    let g = w.reads.good in
    let c : t ≡ written n es = e ∙ ap (λ (i : ℕ). written i (edge_list (listed os ns))) w.lists.size ∙ ap (written n) (sym (one_edges n es os ns g w.lists)) in
    let b = states_both s n es (reads_states s n es w.reads) in
    record { size = n; edges = es; first = w.reads; again = subst (λ x. Reads x n es) (sym c) (written_reads n es g); clean = c; bytes = λ p. c ∙ sym (b.1 p) }

-- a list form that is written and read back
pub rereads : (os ns t ps ms : List ℕ) → Sound os ns → t ≡ written (rows os) (edge_list (listed os ns)) → Loaded t ps ms → (ps ≡ os) × (ms ≡ ns)
rereads os ns t ps ms h e w =
    let n = rows os in
    let es = edge_list (listed os ns) in
    let g = has_edges os ns h in
    let r = subst (λ x. Reads x n es) (sym e) (written_reads n es g.0) in
    let one = reads_one t w.size n w.edges es w.reads r in
    let l : Lists n es ps ms = subst (λ fs. Lists n fs ps ms) one.1 (subst (λ (i : ℕ). Lists i w.edges ps ms) one.0 w.lists) in
    one_form n es ps ms os ns l g.1

pub rereads_not : (os ns t : List ℕ) (f : Fault) → Sound os ns → t ≡ written (rows os) (edge_list (listed os ns)) → Unread (outcome t) f → f.refusal ≡ NoMemory
rereads_not os ns t f h e (inl u) =
    let n = rows os in
    let es = edge_list (listed os ns) in
    let g = has_edges os ns h in
    let r = subst (λ x. Reads x n es) (sym e) (written_reads n es g.0) in
    let o = reads_states t n es r in
    let z : ◌≡◌ {A = ℕ} 0 1 = cc in absurd (omega arith)
rereads_not os ns t f h e (inr u) =
    let v = u.0 in
    let k : number f.refusal ≡ 99 = cc in
    number_memory f.refusal k

pub loaded_memory : (s os ns : List ℕ) (f : Fault) → Loaded s os ns → Unplaced NoMemory f → Unread (outcome s) f
loaded_memory s os ns f w u =
    inr (unplaced_told NoMemory f u, (w.size, w.edges, reads_states s w.size w.edges w.reads))
