-- A sheet that states something is of the right form.
use Rattle.std.proofs.Common.{◌≡◌, ℕ, ◌+◌, ◌<◌, ◌≤◌, true, false, cond, ◌&&◌, eqb, ltb, leb, ◌⊎◌, List, [], ◌∷◌, ◌++◌, map, length, get_or, None, Option, sym, refl, ap, ◌∙◌, subst, inl, inr, arith}
use Rattle.std.specs.List.{flat_map}
use Rattle.std.proofs.lemmas.List.{append_assoc, append-nil, length_push}
use Rattle.std.proofs.lemmas.Bool.{cases_Bool, eqb-false, ltb-false, ltb-true, leb-true, leb-false, and_parts}
use Rattle.fields.specs.Parts.{Parts, last, more, ahead, parts}
use Rattle.fields.proofs.Pieces.{Without, without_tail}
use Rattle.graph.specs.declared.edge.Edge.{Edge}
use Rattle.graph.proofs.Edges.{latest_push}
use Rattle.grammar.specs.Lines.{field, Said, size, clash, remark, ended, wrong, says}
use Rattle.graph.specs.Edges.{edge, latest, above, Rising}
use Rattle.grammar.specs.Sheet.{row, written, Item, pair, note, line_of, edges_of, Sound, Reads, Outcome, states, fault, Verdict, fine, refused, judge, judged, closed, turn, walk, opened, opening, outcome, plain}
use Rattle.grammar.proofs.Lines.{join, parts_join, Row, says_clash, says_size, says_remark, says_ended}
use Rattle.grammar.proofs.Forth.{without_cons, without_nil, row_line, row_rest, pairs_text}

-- no part has the byte
abbrev pub Clean : ℕ → Parts → Type 0
Clean at (last f) = Without at f
Clean at (more f p) = Without at f × Clean at p

pub clean_ahead : (at c : ℕ) (p : Parts) → (c ≡ at → ⊥) → Clean at p → Clean at (ahead c p)
clean_ahead at c (last f) n w = without_cons at c f n w
clean_ahead at c (more f p) n w = (without_cons at c f n w.0, w.1)

pub parts_clean : (at : ℕ) (s : List ℕ) → Clean at (parts at s)
unfolding parts
parts_clean at [] = without_nil at
parts_clean at (c ∷ s) =
    let h = parts_clean at s in
    elim (cases_Bool (eqb c at)) [
      | inl e ↦ rw e (without_nil at, h)
      | inr e ↦ rw e (clean_ahead at c (parts at s) (eqb-false c at e) h)
    ]

pub judge_inv : (n m : ℕ) (es : List Edge) (a b : ℕ) → judge n m (length es) (latest es) a b ≡ fine → (length es < m) × (b < n) × (a < b) × (above (latest es) (edge a b) ≡ true)
unfolding judge
judge_inv n m es a b h =
    elim (cases_Bool (leb m (length es))) [
      | inl x ↦ let u = rw x at h in let z : ◌≡◌ {A = ℕ} 0 1 = cc in absurd (omega arith)
      | inr x ↦ let h1 = rw x at h in elim (cases_Bool (leb n a)) [
        | inl y ↦ let u = rw y at h1 in let z : ◌≡◌ {A = ℕ} 0 1 = cc in absurd (omega arith)
        | inr y ↦ let h2 = rw y at h1 in elim (cases_Bool (leb n b)) [
          | inl v ↦ let u = rw v at h2 in let z : ◌≡◌ {A = ℕ} 0 1 = cc in absurd (omega arith)
          | inr v ↦ let h3 = rw v at h2 in elim (cases_Bool (ltb a b && above (latest es) (edge a b))) [
            | inr w ↦ let u = rw w at h3 in let z : ◌≡◌ {A = ℕ} 0 1 = cc in absurd (omega arith)
            | inl w ↦ let g = and_parts (ltb a b) (above (latest es) (edge a b)) w in
                (leb-false m (length es) x, leb-false n b v, ltb-true a b g.0, g.1)
          ]
        ]
      ]
    ]

-- the bytes of a line, from its fields
pub row_bytes : (line : List ℕ) (c a b : ℕ) → parts 9 line ≡ Row c a b → line ≡ row_line c a b
unfolding Row join row_line
row_bytes line c a b e = parts_join 9 line ∙ ap (join 9) e

pub note_bytes : (line : List ℕ) → field (parts 9 line) 0 ≡ 114 ∷ [] → (t : List ℕ) × (line ≡ 114 ∷ t) × ((t ≡ []) ⊎ (get_or t 0 0 ≡ 9))
unfolding join
note_bytes line e = go (parts 9 line) refl e
  where
    go : (p : Parts) → parts 9 line ≡ p → field p 0 ≡ 114 ∷ [] → (t : List ℕ) × (line ≡ 114 ∷ t) × ((t ≡ []) ⊎ (get_or t 0 0 ≡ 9))
    go (last f) q h = ([], parts_join 9 line ∙ ap (join 9) q ∙ h, inl refl)
    go (more f p) q h = (9 ∷ join 9 p, parts_join 9 line ∙ ap (join 9) q ∙ ap (λ x. x ++ 9 ∷ join 9 p) h, inr refl)

-- the items that stand in the lines of p
pub record Found (n m : ℕ) (es : List Edge) (p : Parts) (n' : ℕ) (fs : List Edge) : Type 0 where
  pub items : List Item
  pub text : join 10 p ≡ flat_map line_of items ++ (101 ∷ 10 ∷ [])
  pub same : n' ≡ n
  pub edges : fs ≡ es ++ edges_of items
  pub sound : Sound items
  pub rising : Rising n (latest es) (edges_of items)
  pub full : length fs ≡ m
  pub free : plain p ≡ true → items ≡ map pair (edges_of items)

pub found_end : (n m : ℕ) (es : List Edge) (k : ℕ) (line : List ℕ) (rest : Parts) (n' : ℕ) (fs : List Edge) → length es ≤ m → parts 9 line ≡ last (101 ∷ []) → cond (ltb (length es) m) (fault 12 k 1 (field (parts 9 line) 0)) (closed n es (k + 1) rest) ≡ states n' fs → Found n m es (more line rest) n' fs
unfolding join
found_end n m es k line (more l q) n' fs i e h =
    elim (cases_Bool (ltb (length es) m)) [
      | inl x ↦ let u = rw x at h in let z : ◌≡◌ {A = ℕ} 0 1 = cc in absurd (omega arith)
      | inr x ↦ let u = rw x at h in let z : ◌≡◌ {A = ℕ} 0 1 = cc in absurd (omega arith)
    ]
found_end n m es k line (last (c ∷ f)) n' fs i e h =
    elim (cases_Bool (ltb (length es) m)) [
      | inl x ↦ let u = rw x at h in let z : ◌≡◌ {A = ℕ} 0 1 = cc in absurd (omega arith)
      | inr x ↦ let u = rw x at h in let z : ◌≡◌ {A = ℕ} 0 1 = cc in absurd (omega arith)
    ]
found_end n m es k line (last []) n' fs i e h =
    elim (cases_Bool (ltb (length es) m)) [
      | inl x ↦ let u = rw x at h in let z : ◌≡◌ {A = ℕ} 0 1 = cc in absurd (omega arith)
      | inr x ↦ let u = rw x at h in
          let a : n ≡ n' = cc in let b : es ≡ fs = cc in
          record {
            items = [];
            text = ap (λ l. l ++ 10 ∷ []) (parts_join 9 line ∙ ap (join 9) e);
            same = sym a;
            edges = sym b ∙ sym (append-nil es);
            sound = tt;
            rising = tt;
            full = let y = ltb-false (length es) m x in omega (arith, ap length b);
            free = λ f. refl;
          }
    ]

pub found_pair : (n m : ℕ) (es : List Edge) (line : List ℕ) (rest : Parts) (n' : ℕ) (fs : List Edge) (a b : ℕ) → parts 9 line ≡ Row 112 a b → (b < n) × (a < b) × (above (latest es) (edge a b) ≡ true) → Found n m (es ++ edge a b ∷ []) rest n' fs → Found n m es (more line rest) n' fs
unfolding join plain Row
found_pair n m es line rest n' fs a b e g r =
    record {
      items = pair (edge a b) ∷ r.items;
      text = ap (λ l. l ++ 10 ∷ join 10 rest) (row_bytes line 112 a b e)
          ∙ ap (λ t. row_line 112 a b ++ 10 ∷ t) r.text
          ∙ sym (row_rest 112 a b (flat_map line_of r.items ++ (101 ∷ 10 ∷ [])))
          ∙ sym (append_assoc (row 112 a b) (flat_map line_of r.items) (101 ∷ 10 ∷ []));
      same = r.same;
      edges = r.edges ∙ append_assoc es (edge a b ∷ []) (edges_of r.items);
      sound = r.sound;
      rising = (g.1, g.0, g.2, subst (λ o. Rising n o (edges_of r.items)) (latest_push es (edge a b)) r.rising);
      full = r.full;
      free = λ f. ap (λ t. pair (edge a b) ∷ t) (r.free (rw e at f));
    }

pub found_note : (n m : ℕ) (es : List Edge) (line : List ℕ) (rest : Parts) (n' : ℕ) (fs : List Edge) → Without 10 line → field (parts 9 line) 0 ≡ 114 ∷ [] → Found n m es rest n' fs → Found n m es (more line rest) n' fs
unfolding join plain
found_note n m es line rest n' fs w e r =
    let t = note_bytes line e in
    record {
      items = note t.0 ∷ r.items;
      text = ap (λ l. l ++ 10 ∷ join 10 rest) t.1
          ∙ ap (λ x. 114 ∷ (t.0 ++ 10 ∷ x)) r.text
          ∙ sym (ap (λ x. 114 ∷ x) (append_assoc t.0 (10 ∷ []) (flat_map line_of r.items ++ (101 ∷ 10 ∷ []))))
          ∙ sym (append_assoc (114 ∷ (t.0 ++ 10 ∷ [])) (flat_map line_of r.items) (101 ∷ 10 ∷ []));
      same = r.same;
      edges = r.edges;
      sound = (without_tail 10 114 t.0 (subst (Without 10) t.1 w), t.2, r.sound);
      rising = r.rising;
      full = r.full;
      free = λ f. let u = rw e at f in let z : ◌≡◌ {A = ℕ} 0 1 = cc in absurd (omega arith);
    }

-- one line
pub back_turn : (n m : ℕ) (es : List Edge) (k : ℕ) (line : List ℕ) (rest : Parts) (n' : ℕ) (fs : List Edge) (go : List Edge → Outcome) → length es ≤ m → Without 10 line → ((done : List Edge) → length done ≤ m → go done ≡ states n' fs → Found n m done rest n' fs) → (sd : Said) → says false (parts 9 line) ≡ sd → turn n m es k (parts 9 line) sd go rest ≡ states n' fs → Found n m es (more line rest) n' fs
back_turn n m es k line rest n' fs go i w ih (size a b) e h = let z : ◌≡◌ {A = ℕ} 0 1 = cc in absurd (omega arith)
back_turn n m es k line rest n' fs go i w ih (clash a b) e h = judging (judge n m (length es) (latest es) a b) refl h
  where
    judging : (v : Verdict) → judge n m (length es) (latest es) a b ≡ v → judged k (parts 9 line) v (go (es ++ edge a b ∷ [])) ≡ states n' fs → Found n m es (more line rest) n' fs
    judging fine j x =
        let g = judge_inv n m es a b j in let q = length_push es (edge a b) in
        found_pair n m es line rest n' fs a b (says_clash (parts 9 line) a b e).0 (g.1, g.2, g.3) (ih (es ++ edge a b ∷ []) (let y = g.0 in omega arith) x)
    judging (refused c f) j x = let z : ◌≡◌ {A = ℕ} 0 1 = cc in absurd (omega arith)
back_turn n m es k line rest n' fs go i w ih remark e h = found_note n m es line rest n' fs w (says_remark (parts 9 line) e) (ih es i h)
back_turn n m es k line rest n' fs go i w ih ended e h = found_end n m es k line rest n' fs i (says_ended (parts 9 line) e) h
back_turn n m es k line rest n' fs go i w ih (wrong j) e h = let z : ◌≡◌ {A = ℕ} 0 1 = cc in absurd (omega arith)

pub walk_back : (n m : ℕ) (es : List Edge) (k : ℕ) (p : Parts) (n' : ℕ) (fs : List Edge) → length es ≤ m → Clean 10 p → walk n m es k p ≡ states n' fs → Found n m es p n' fs
unfolding walk
walk_back n m es k (last f) n' fs i w h = let z : ◌≡◌ {A = ℕ} 0 1 = cc in absurd (omega arith)
walk_back n m es k (more line rest) n' fs i w h =
    back_turn n m es k line rest n' fs (λ done. walk n m done (k + 1) rest) i w.0 (λ done j x. walk_back n m done (k + 1) rest n' fs j w.1 x) (says false (parts 9 line)) refl h

-- the whole sheet: its form, and without remarks its bytes
pub opened_back : (line : List ℕ) (rest : Parts) (n : ℕ) (es : List Edge) (sd : Said) → says true (parts 9 line) ≡ sd → Clean 10 rest → opened (parts 9 line) sd rest ≡ states n es → Reads (line ++ 10 ∷ join 10 rest) n es × (plain (more line rest) ≡ true → line ++ 10 ∷ join 10 rest ≡ written n es)
unfolding plain Row
opened_back line rest n es (size n₀ m) e w h =
    elim (cases_Bool (leb n₀ 1024 && leb m 16384)) [
      | inr x ↦ let u = rw x at h in let z : ◌≡◌ {A = ℕ} 0 1 = cc in absurd (omega arith)
      | inl x ↦
          let r = walk_back n₀ m [] 2 rest n es (omega arith) w (rw x at h) in
          let g = and_parts (leb n₀ 1024) (leb m 16384) x in
          let a = leb-true n₀ 1024 g.0 in let b = leb-true m 16384 g.1 in
          let s = (says_size (parts 9 line) n₀ m e).0 in
          let t : line ++ 10 ∷ join 10 rest ≡ row 115 n (length es) ++ (flat_map line_of r.items ++ (101 ∷ 10 ∷ [])) =
          ap (λ l. l ++ 10 ∷ join 10 rest) (row_bytes line 115 n₀ m s)
          ∙ ap (λ y. row_line 115 n₀ m ++ 10 ∷ y) r.text
          ∙ sym (row_rest 115 n₀ m (flat_map line_of r.items ++ (101 ∷ 10 ∷ [])))
          ∙ ap (λ y. row 115 y m ++ (flat_map line_of r.items ++ (101 ∷ 10 ∷ []))) (sym r.same)
          ∙ ap (λ y. row 115 n y ++ (flat_map line_of r.items ++ (101 ∷ 10 ∷ []))) (sym r.full) in
          let d : edges_of r.items ≡ es = sym r.edges in (
            record {
              items = r.items;
              text = t;
              edges = d;
              sound = r.sound;
              good = record { small = omega (arith, r.same); few = omega (arith, r.full); rising = subst (λ y. Rising y None es) (sym r.same) (subst (Rising n₀ None) d r.rising) };
            },
            λ f. t ∙ ap (λ y. row 115 n (length es) ++ (y ++ (101 ∷ 10 ∷ []))) (ap (flat_map line_of) (r.free (rw s at f)) ∙ pairs_text (edges_of r.items) ∙ ap (flat_map (λ e. row 112 e.a e.b)) d),
          )
    ]
opened_back line rest n es (clash a b) e w h = let z : ◌≡◌ {A = ℕ} 0 1 = cc in absurd (omega arith)
opened_back line rest n es remark e w h = let z : ◌≡◌ {A = ℕ} 0 1 = cc in absurd (omega arith)
opened_back line rest n es ended e w h = let z : ◌≡◌ {A = ℕ} 0 1 = cc in absurd (omega arith)
opened_back line rest n es (wrong j) e w h = let z : ◌≡◌ {A = ℕ} 0 1 = cc in absurd (omega arith)

pub opening_back : (p : Parts) (n : ℕ) (es : List Edge) → Clean 10 p → opening p ≡ states n es → Reads (join 10 p) n es × (plain p ≡ true → join 10 p ≡ written n es)
unfolding join
opening_back (last f) n es w h = let z : ◌≡◌ {A = ℕ} 0 1 = cc in absurd (omega arith)
opening_back (more line rest) n es w h = opened_back line rest n es (says true (parts 9 line)) refl w.1 h

pub states_both : (s : List ℕ) (n : ℕ) (es : List Edge) → outcome s ≡ states n es → Reads s n es × (plain (parts 10 s) ≡ true → s ≡ written n es)
unfolding outcome
states_both s n es h =
    subst (λ t. Reads t n es × (plain (parts 10 s) ≡ true → t ≡ written n es)) (sym (parts_join 10 s)) (opening_back (parts 10 s) n es (parts_clean 10 s) h)

pub states_reads : (s : List ℕ) (n : ℕ) (es : List Edge) → outcome s ≡ states n es → Reads s n es
states_reads s n es h = (states_both s n es h).0

-- an edge that is taken leaves room for it in the count
pub judge_done : (n m done : ℕ) (o : Option Edge) (a b : ℕ) → judge n m done o a b ≡ fine → done < m
unfolding judge
judge_done n m done o a b h =
    elim (cases_Bool (leb m done)) [
      | inl x ↦ let u = rw x at h in let z : ◌≡◌ {A = ℕ} 0 1 = cc in absurd (omega arith)
      | inr x ↦ leb-false m done x
    ]
