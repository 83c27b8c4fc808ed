-- A sheet of the right form states what it should.
use Rattle.std.proofs.Common.{◌≡◌, ℕ, zero, suc, ◌+◌, ◌<◌, ◌≤◌, true, ltb, ◌⊎◌, List, [], ◌∷◌, ◌++◌, map, length, get_or, None, decimal, sym, refl, ap, ◌∙◌, subst, inl, inr, arith}
use Rattle.std.specs.List.{flat_map}
use Rattle.std.proofs.lemmas.List.{append_assoc, append-nil, length_push}
use Rattle.std.proofs.lemmas.Bool.{lt-leb, le-leb, lt-ltb, le-ltb, and_from}
use Rattle.std.proofs.lemmas.Str.Parse.{not_in_digits}
use Rattle.std.proofs.lemmas.Fmt.{digits_decimal}
use Rattle.fields.specs.Parts.{more, parts}
use Rattle.fields.proofs.Numbers.{own}
use Rattle.fields.proofs.Pieces.{Without, without_tail, parts_last, parts_more}
use Rattle.graph.specs.declared.edge.Edge.{Edge}
use Rattle.graph.proofs.Edges.{latest_push}
use Rattle.grammar.specs.Lines.{field}
use Rattle.graph.specs.Edges.{edge, latest, above, Rising, Good}
use Rattle.grammar.specs.Sheet.{row, written, Item, pair, note, line_of, edges_of, Sound, Reads, states, fine, judge, walk, outcome}
use Rattle.grammar.proofs.Lines.{Row, row_says, end_says, remark_says}

pub without_append : (at : ℕ) (f g : List ℕ) → Without at f → Without at g → Without at (f ++ g)
without_append at [] g v w k l e = w k l e
without_append at (c ∷ f) g v w zero l e = v 0 (omega arith) e
without_append at (c ∷ f) g v w (suc k) l e = without_append at f g (without_tail at c f v) w k (omega arith) e

pub without_cons : (at c : ℕ) (f : List ℕ) → (c ≡ at → ⊥) → Without at f → Without at (c ∷ f)
without_cons at c f n w zero l e = n e
without_cons at c f n w (suc k) l e = w k (omega arith) e

pub without_nil : (at : ℕ) → Without at []
without_nil at k l e = absurd (omega arith)

pub without_decimal : (at v : ℕ) → at < 48 → v < 100000 → Without at (decimal v)
without_decimal at v l m k i e = not_in_digits own (decimal v) at (digits_decimal own v (omega arith)) (λ x. omega (arith, x)) k i e

-- a line with two numbers, without its line feed
unfoldable pub row_line : ℕ → ℕ → ℕ → List ℕ
row_line c a b = c ∷ 9 ∷ (decimal a ++ 9 ∷ decimal b)

pub row_rest : (c a b : ℕ) (rest : List ℕ) → row c a b ++ rest ≡ row_line c a b ++ 10 ∷ rest
unfolding row_line
row_rest c a b rest = simp append_assoc

pub row_parts : (c a b : ℕ) (rest : List ℕ) → 10 < c → a < 100000 → b < 100000 → parts 10 (row c a b ++ rest) ≡ more (row_line c a b) (parts 10 rest)
unfolding row_line
row_parts c a b rest g l m =
    ap (parts 10) (row_rest c a b rest)
    ∙ parts_more 10 (c ∷ 9 ∷ (decimal a ++ 9 ∷ decimal b)) rest
    (without_cons 10 c (9 ∷ (decimal a ++ 9 ∷ decimal b)) (λ e. omega arith)
    (without_cons 10 9 (decimal a ++ 9 ∷ decimal b) (λ e. omega arith)
    (without_append 10 (decimal a) (9 ∷ decimal b) (without_decimal 10 a (omega arith) l)
    (without_cons 10 9 (decimal b) (λ e. omega arith) (without_decimal 10 b (omega arith) m)))))

pub row_fields_are : (c a b : ℕ) → 10 < c → a < 100000 → b < 100000 → parts 9 (row_line c a b) ≡ Row c a b
unfolding row_line Row
row_fields_are c a b g l m =
    parts_more 9 (c ∷ []) (decimal a ++ 9 ∷ decimal b) (without_cons 9 c [] (λ e. omega arith) (without_nil 9))
    ∙ ap (more (c ∷ [])) (parts_more 9 (decimal a) (decimal b) (without_decimal 9 a (omega arith) l)
    ∙ ap (more (decimal a)) (parts_last 9 (decimal b) (without_decimal 9 b (omega arith) m)))

pub judge_fine : (n m : ℕ) (es : List Edge) (a b : ℕ) → length es < m → a < b → b < n → above (latest es) (edge a b) ≡ true → judge n m (length es) (latest es) a b ≡ fine
unfolding judge
judge_fine n m es a b l s t u =
    rw (lt-leb m (length es) l, lt-leb n a (omega arith), lt-leb n b t, and_from (ltb a b) (above (latest es) (edge a b)) (lt-ltb a b s) u) refl

pub walk_row : (n m : ℕ) (es : List Edge) (k a b : ℕ) (rest : List ℕ) → n ≤ 1024 → length es < m → a < b → b < n → above (latest es) (edge a b) ≡ true → walk n m es k (parts 10 (row 112 a b ++ rest)) ≡ walk n m (es ++ edge a b ∷ []) (k + 1) (parts 10 rest)
unfolding walk
walk_row n m es k a b rest z l s t u =
    let h = row_parts 112 a b rest (omega arith) (omega arith) (omega arith) in
    let f = row_fields_are 112 a b (omega arith) (omega arith) (omega arith) in
    let y = (row_says a b (omega arith) (omega arith)).0 in
    rw (h, f, y, judge_fine n m es a b l s t u) refl

pub note_field : (t : List ℕ) → (t ≡ []) ⊎ (get_or t 0 0 ≡ 9) → field (parts 9 (114 ∷ t)) 0 ≡ 114 ∷ []
unfolding parts
note_field [] w = refl
note_field (c ∷ t) w =
    let e : c ≡ 9 = elim w [ inl n ↦ (let z : ◌≡◌ {A = ℕ} 0 1 = cc in absurd (omega arith)) | inr h ↦ h ] in
    ap (λ (x : ℕ). field (parts 9 (114 ∷ x ∷ t)) 0) e ∙ ap (λ p. field p 0) (parts_more 9 (114 ∷ []) t (without_cons 9 114 [] (λ q. omega arith) (without_nil 9)))

pub walk_note : (n m : ℕ) (es : List Edge) (k : ℕ) (t rest : List ℕ) → Without 10 t → (t ≡ []) ⊎ (get_or t 0 0 ≡ 9) → walk n m es k (parts 10 ((114 ∷ (t ++ 10 ∷ [])) ++ rest)) ≡ walk n m es (k + 1) (parts 10 rest)
unfolding walk
walk_note n m es k t rest w o =
    let h : parts 10 ((114 ∷ (t ++ 10 ∷ [])) ++ rest) ≡ more (114 ∷ t) (parts 10 rest) =
    ap (λ r. parts 10 (114 ∷ r)) (append_assoc t (10 ∷ []) rest) ∙ parts_more 10 (114 ∷ t) rest (without_cons 10 114 t (λ q. omega arith) w) in
    rw (h, remark_says (parts 9 (114 ∷ t)) (note_field t o)) refl

pub walk_end : (n m : ℕ) (es : List Edge) (k : ℕ) → m ≤ length es → walk n m es k (parts 10 (101 ∷ 10 ∷ [])) ≡ states n es
unfolding walk parts
walk_end n m es k l = rw (end_says, le-ltb (length es) m l) refl

pub walk_items : (n m : ℕ) (items : List Item) (es : List Edge) (k : ℕ) → n ≤ 1024 → Sound items → Rising n (latest es) (edges_of items) → length es + length (edges_of items) ≡ m → walk n m es k (parts 10 (flat_map line_of items ++ (101 ∷ 10 ∷ []))) ≡ states n (es ++ edges_of items)
walk_items n m [] es k z s r l = walk_end n m es k (omega arith) ∙ ap (states n) (sym (append-nil es))
walk_items n m (pair e ∷ xs) es k z s r l =
    let p = length_push es e in
    ap (λ t. walk n m es k (parts 10 t)) (append_assoc (row 112 e.a e.b) (flat_map line_of xs) (101 ∷ 10 ∷ []))
    ∙ walk_row n m es k e.a e.b (flat_map line_of xs ++ (101 ∷ 10 ∷ [])) z (omega arith) r.0 r.1 r.2
    ∙ walk_items n m xs (es ++ e ∷ []) (k + 1) z s (subst (λ o. Rising n o (edges_of xs)) (sym (latest_push es e)) r.3) (omega arith)
    ∙ ap (states n) (append_assoc es (e ∷ []) (edges_of xs))
walk_items n m (note t ∷ xs) es k z s r l =
    ap (λ t. walk n m es k (parts 10 t)) (append_assoc (114 ∷ (t ++ 10 ∷ [])) (flat_map line_of xs) (101 ∷ 10 ∷ []))
    ∙ walk_note n m es k t (flat_map line_of xs ++ (101 ∷ 10 ∷ [])) s.0 s.1
    ∙ walk_items n m xs es (k + 1) z s.2 r l

pub reads_states : (s : List ℕ) (n : ℕ) (es : List Edge) → Reads s n es → outcome s ≡ states n es
unfolding outcome
reads_states s n es r =
    let z = r.good.small in let q = r.good.few in
    let h = row_parts 115 n (length es) (flat_map line_of r.items ++ (101 ∷ 10 ∷ [])) (omega arith) (omega arith) (omega arith) in
    let f = row_fields_are 115 n (length es) (omega arith) (omega arith) (omega arith) in
    let y = (row_says n (length es) (omega arith) (omega arith)).1 in
    let x = r.edges in
    let w = walk_items n (length es) r.items [] 2 z r.sound (subst (Rising n None) (sym x) r.good.rising) (let v = ap length x in omega arith) in
    rw (r.text, h, f, y, le-leb n 1024 z, le-leb (length es) 16384 q) (w ∙ ap (states n) x)

-- what is written is of the right form
pub pairs_text : (es : List Edge) → flat_map line_of (map pair es) ≡ flat_map (λ e. row 112 e.a e.b) es
pairs_text [] = refl
pairs_text (e ∷ es) = ap (λ t. row 112 e.a e.b ++ t) (pairs_text es)

pub pairs_edges : (es : List Edge) → edges_of (map pair es) ≡ es
pairs_edges [] = refl
pairs_edges (e ∷ es) = ap (λ t. e ∷ t) (pairs_edges es)

pub pairs_sound : (es : List Edge) → Sound (map pair es)
pairs_sound [] = tt
pairs_sound (e ∷ es) = pairs_sound es

pub written_reads : (n : ℕ) (es : List Edge) → Good n es → Reads (written n es) n es
written_reads n es g =
    record { items = map pair es; text = ap (λ t. row 115 n (length es) ++ (t ++ (101 ∷ 10 ∷ []))) (sym (pairs_text es)); edges = pairs_edges es; sound = pairs_sound es; good = g }

pub reads_one : (s : List ℕ) (n m : ℕ) (es fs : List Edge) → Reads s n es → Reads s m fs → (n ≡ m) × (es ≡ fs)
reads_one s n m es fs a b = let x = reads_states s n es a in let y = reads_states s m fs b in (cc, cc)
