-- The edges of a row, one neighbour at a time and all at once.
use Rattle.std.proofs.Common.{◌≡◌, ℕ, zero, suc, ◌+◌, ◌<◌, ◌≤◌, Bool, true, false, cond, ◌&&◌, ltb, List, [], ◌∷◌, ◌++◌, map, length, get_or, take, Some, None, sym, refl, ap, ◌∙◌, subst, inl, inr, add-one, arith}
use Rattle.std.specs.List.{flat_map}
use Rattle.std.proofs.lemmas.List.{append_assoc, append-nil, flat_map_more, take_more, take_all, map-append}
use Rattle.std.proofs.lemmas.Bool.{cases_Bool, lt-ltb, le-ltb}
use Rattle.finite.specs.Finite.{members}
use Rattle.finite.proofs.Members.{length_members, members_at}
use Rattle.finite.proofs.Rising.{nth-get_or}
use Rattle.graph.specs.declared.edge.Edge.{Edge}
use Rattle.graph.specs.Graph.{Graph, clash, degree}
use Rattle.graph.specs.Edges.{edge, edges_at, edges_below, edge_list}
use Rattle.graph.specs.Neighbours.{Steps}
use Rattle.grammar.specs.Sheet.{row, written, edge_row}
use Rattle.writing.specs.Upper.{upper}

pub upper_none : (a : ℕ) → upper a [] ≡ []
unfolding upper
upper_none a = refl

pub upper_push : (a : ℕ) (xs : List ℕ) (b : ℕ) → upper a (xs ++ b ∷ []) ≡ upper a xs ++ cond (ltb a b) (edge a b ∷ []) []
unfolding upper
upper_push a [] b = elim (cases_Bool (ltb a b)) [ inl y ↦ rw y refl | inr y ↦ rw y refl ]
upper_push a (x ∷ xs) b =
    let h = upper_push a xs b in
    elim (cases_Bool (ltb a x)) [
      | inl y ↦ rw y (ap (λ es. edge a x ∷ es) h)
      | inr y ↦ rw y h
    ]

-- the edges of a set of neighbours
pub upper_members : (a : ℕ) (p : ℕ → Bool) (n : ℕ) → upper a (members p n) ≡ map (edge a) (members (λ b. ltb a b && p b) n)
unfolding members
upper_members a p zero = upper_none a
upper_members a p (suc n) =
    let h = upper_members a p n in
    elim (cases_Bool (p n)) [
      | inl y ↦ rw y (upper_push a (members p n) n ∙ ap (λ es. es ++ cond (ltb a n) (edge a n ∷ []) []) h ∙ there y)
      | inr y ↦ rw (y, append-nil) (h ∙ none y)
    ]
  where
    one : (x : Bool) → map (edge a) (members (λ b. ltb a b && p b) n) ++ cond x (edge a n ∷ []) [] ≡ map (edge a) (members (λ b. ltb a b && p b) n ++ cond x (n ∷ []) [])
    one true = sym (map-append (edge a) (members (λ b. ltb a b && p b) n) (n ∷ []))
    one false = sym (map-append (edge a) (members (λ b. ltb a b && p b) n) [])

    there : p n ≡ true → map (edge a) (members (λ b. ltb a b && p b) n) ++ cond (ltb a n) (edge a n ∷ []) [] ≡ map (edge a) (members (λ b. ltb a b && p b) n ++ cond (ltb a n && true) (n ∷ []) [])
    there y = one (ltb a n) ∙ ap (λ (v : Bool). map (edge a) (members (λ b. ltb a b && p b) n ++ cond v (n ∷ []) [])) (both (ltb a n))
      where
        both : (x : Bool) → x ≡ (x && true)
        both true = refl
        both false = refl

    none : p n ≡ false → map (edge a) (members (λ b. ltb a b && p b) n) ≡ map (edge a) (members (λ b. ltb a b && p b) n ++ cond (ltb a n && false) (n ∷ []) [])
    none y = ap (map (edge a)) (sym (append-nil (members (λ b. ltb a b && p b) n))) ∙ ap (λ (v : Bool). map (edge a) (members (λ b. ltb a b && p b) n ++ cond v (n ∷ []) [])) (neither (ltb a n))
      where
        neither : (x : Bool) → false ≡ (x && false)
        neither true = refl
        neither false = refl

pub joined_append : (es fs : List Edge) → flat_map edge_row (es ++ fs) ≡ flat_map edge_row es ++ flat_map edge_row fs
joined_append [] fs = refl
joined_append (e ∷ es) fs = ap (λ x. edge_row e ++ x) (joined_append es fs) ∙ sym (append_assoc (edge_row e) (flat_map edge_row es) (flat_map edge_row fs))

-- what is written of a row
pub upper_more : (a : ℕ) (out now new : List ℕ) (ns : List ℕ) (i : ℕ) → i < length ns → a < get_or ns i 0 → now ≡ out ++ flat_map edge_row (upper a (take i ns)) → new ≡ now ++ row 112 a (get_or ns i 0) → new ≡ out ++ flat_map edge_row (upper a (take (i + 1) ns))
upper_more a out now new ns i l h e f =
    f ∙ ap (λ x. x ++ row 112 a (get_or ns i 0)) e ∙ flat_map_more edge_row out (upper a (take i ns)) (edge a (get_or ns i 0))
    ∙ ap (λ es. out ++ flat_map edge_row es) (sym (ap (upper a) (take_more ns i 0 l) ∙ upper_push a (take i ns) (get_or ns i 0) ∙ ap (λ (v : Bool). upper a (take i ns) ++ cond v (edge a (get_or ns i 0) ∷ []) []) (lt-ltb a (get_or ns i 0) h)))

pub upper_skip : (a : ℕ) (out now new : List ℕ) (ns : List ℕ) (i : ℕ) → i < length ns → get_or ns i 0 ≤ a → now ≡ out ++ flat_map edge_row (upper a (take i ns)) → new ≡ now → new ≡ out ++ flat_map edge_row (upper a (take (i + 1) ns))
upper_skip a out now new ns i l h e f =
    f ∙ e ∙ ap (λ es. out ++ flat_map edge_row es) (sym (ap (upper a) (take_more ns i 0 l) ∙ upper_push a (take i ns) (get_or ns i 0) ∙ ap (λ (v : Bool). upper a (take i ns) ++ cond v (edge a (get_or ns i 0) ∷ []) []) (le-ltb a (get_or ns i 0) h) ∙ append-nil (upper a (take i ns))))

pub upper_all : (a : ℕ) (out now : List ℕ) (ns : List ℕ) (i : ℕ) → length ns ≤ i → now ≡ out ++ flat_map edge_row (upper a (take i ns)) → now ≡ out ++ flat_map edge_row (upper a ns)
upper_all a out now ns i l e = e ∙ ap (λ xs. out ++ flat_map edge_row (upper a xs)) (take_all i ns l)

-- of the row of a vertex, the first i neighbours are written, as an iterator over them stands
pub record Written (g : Graph) (a : ℕ) (start out : List ℕ) (h : Graph) (v i : ℕ) : Type 0 where
  pub graph : h ≡ g
  pub vertex : v ≡ a
  pub text : out ≡ start ++ flat_map edge_row (upper a (take i (members (clash g a) g.size)))

pub row_none : (g : Graph) (a : ℕ) (start : List ℕ) (h : Graph) (v i : ℕ) → h ≡ g → v ≡ a → i ≡ 0 → Written g a start start h v i
unfolding upper
row_none g a start h v i e f z =
    record { graph = e; vertex = f; text = sym (ap (λ (k : ℕ). start ++ flat_map edge_row (upper a (take k (members (clash g a) g.size)))) z ∙ append-nil start) }

-- the next neighbour
here : (g : Graph) (a b i : ℕ) → Steps g a i (Some b) (i + 1) → (i < length (members (clash g a) g.size)) × (get_or (members (clash g a) g.size) i 0 ≡ b)
unfolding degree
here g a b i s = (omega (arith, s.3, length_members (clash g a) g.size), nth-get_or _ i b (members_at (clash g a) g.size b i s.0 s.1 s.2))

stepped : (g : Graph) (a b : ℕ) (h : Graph) (v i j : ℕ) → h ≡ g → v ≡ a → Steps h v i (Some b) j → Steps g a i (Some b) (i + 1)
stepped g a b h v i j e f s =
    let t = subst (λ x. Steps g x i (Some b) j) f (subst (λ x. Steps x v i (Some b) j) e s) in
    (t.0, t.1, t.2, t.3, refl)

pub row_more : (g : Graph) (a b : ℕ) (start out new : List ℕ) (h h' : Graph) (v v' i j : ℕ) → Written g a start out h v i → Steps h v i (Some b) j → h' ≡ h → v' ≡ v → a < b → new ≡ out ++ row 112 a b → Written g a start new h' v' j
row_more g a b start out new h h' v v' i j w s e f l n =
    let ns = members (clash g a) g.size in
    let k = here g a b i (stepped g a b h v i j w.graph w.vertex s) in
    let z : j ≡ i + 1 = s.4 in
    record {
      graph = e ∙ w.graph;
      vertex = f ∙ w.vertex;
      text = upper_more a start out new ns i k.0 (omega (arith, k.1)) w.text (n ∙ ap (λ (x : ℕ). out ++ row 112 a x) (sym k.1)) ∙ ap (λ (x : ℕ). start ++ flat_map edge_row (upper a (take x ns))) (sym z);
    }

pub row_skip : (g : Graph) (a b : ℕ) (start out : List ℕ) (h h' : Graph) (v v' i j : ℕ) → Written g a start out h v i → Steps h v i (Some b) j → h' ≡ h → v' ≡ v → b ≤ a → Written g a start out h' v' j
row_skip g a b start out h h' v v' i j w s e f l =
    let ns = members (clash g a) g.size in
    let k = here g a b i (stepped g a b h v i j w.graph w.vertex s) in
    let z : j ≡ i + 1 = s.4 in
    record {
      graph = e ∙ w.graph;
      vertex = f ∙ w.vertex;
      text = upper_skip a start out out ns i k.0 (omega (arith, k.1)) w.text refl ∙ ap (λ (x : ℕ). start ++ flat_map edge_row (upper a (take x ns))) (sym z);
    }

pub row_all : (g : Graph) (a : ℕ) (start out : List ℕ) (h : Graph) (v i j : ℕ) → Written g a start out h v i → Steps h v i None j → out ≡ start ++ flat_map edge_row (edges_at g a)
unfolding degree
row_all g a start out h v i j w s =
    let t = subst (λ x. Steps g x i None j) w.vertex (subst (λ x. Steps x v i None j) w.graph s) in
    upper_all a start out (members (clash g a) g.size) i (omega (arith, t.0, length_members (clash g a) g.size)) w.text ∙ ap (λ es. start ++ flat_map edge_row es) (upper_members a (clash g a) g.size)

pub below_none : (g : Graph) (front : List ℕ) → front ≡ front ++ flat_map edge_row (edges_below g 0)
unfolding edges_below
below_none g front = sym (append-nil front)

pub below_more : (g : Graph) (front now new : List ℕ) (a : ℕ) → now ≡ front ++ flat_map edge_row (edges_below g a) → new ≡ now ++ flat_map edge_row (edges_at g a) → new ≡ front ++ flat_map edge_row (edges_below g (a + 1))
unfolding edges_below
below_more g front now new a e f =
    f ∙ ap (λ x. x ++ flat_map edge_row (edges_at g a)) e ∙ append_assoc front (flat_map edge_row (edges_below g a)) (flat_map edge_row (edges_at g a))
    ∙ ap (λ x. front ++ x) (sym (joined_append (edges_below g a) (edges_at g a))) ∙ ap (λ (i : ℕ). front ++ flat_map edge_row (edges_below g i)) (sym (add-one a))

-- the whole sheet
pub all_written : (n m : ℕ) (es : List Edge) (out new : List ℕ) → m ≡ length es → out ≡ row 115 n m ++ flat_map edge_row es → new ≡ out ++ 101 ∷ 10 ∷ [] → new ≡ written n es
all_written n m es out new k e a =
    a ∙ ap (λ x. x ++ 101 ∷ 10 ∷ []) (e ∙ ap (λ (i : ℕ). row 115 n i ++ flat_map edge_row es) k) ∙ simp append_assoc

-- the size line and all rows
pub all_rows : (g : Graph) (a k n m : ℕ) (none start out : List ℕ) → none ≡ [] → start ≡ none ++ row 115 k m → k ≡ n → out ≡ start ++ flat_map edge_row (edges_below g a) → a ≡ g.size → out ≡ row 115 n m ++ flat_map edge_row (edge_list g)
all_rows g a k n m none start out e f s h z =
    h ∙ ap (λ x. x ++ flat_map edge_row (edges_below g a)) (f ∙ ap (λ x. x ++ row 115 k m) e ∙ ap (λ (i : ℕ). row 115 i m) s) ∙ ap (λ (i : ℕ). row 115 n m ++ flat_map edge_row (edges_below g i)) z
