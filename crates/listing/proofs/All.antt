-- All edges laid: the list form of their graph.
use Rattle.std.proofs.Common.{◌≡◌, ℕ, zero, suc, ◌+◌, ◌-◌, ◌<◌, ◌≤◌, Bool, true, List, [], ◌∷◌, length, get_or, take, None, sym, refl, ap, ◌∙◌, inl, inr, add-one, arith}
use Rattle.std.proofs.lemmas.List.{length-take-le, get_or-take}
use Rattle.std.proofs.lemmas.Bool.{cases_Bool, cases_lt, both_ways, lt-ltb, le-ltb}
use Rattle.std.proofs.lemmas.Bool.Decides.{nat_tests}
use Rattle.finite.specs.Finite.{count}
use Rattle.finite.proofs.Counts.{count_same, has_true, has_at}
use Rattle.finite.proofs.Rising.{Enumerates, count_enumerated}
use Rattle.graph.specs.declared.edge.Edge.{Edge}
use Rattle.graph.specs.Graph.{clash, degree}
use Rattle.graph.specs.Edges.{joins, graph_of, Rising}
use Rattle.rows.specs.Rows.{rows, in_row, AtRow, SoundOffset, SoundEntry, listed, Lists}
use Rattle.rows.proofs.Among.{among_true, among_found}
use Rattle.rows.proofs.Lawful.{row_stands, row_degree}
use Rattle.listing.specs.Listing.{row_length, row_of, start, AllLaid, StartsTold}
use Rattle.listing.proofs.Starts.{start_none, start_more, start_up, start_all, place_before}
use Rattle.listing.proofs.Rows.{length_row, has_row, row_below, row_other, row_rises}

pub joins_mirror : (es : List Edge) (a b : ℕ) → joins es a b ≡ joins es b a
unfolding joins
joins_mirror [] a b = refl
joins_mirror (e ∷ es) a b = let h = joins_mirror es a b in grind (arith, nat_tests)

same_tests : (x y : Bool) → (x ≡ true → y ≡ true) → (y ≡ true → x ≡ true) → x ≡ y
same_tests x y f g =
    elim (cases_Bool x) [
      | inl h ↦ h ∙ sym (f h)
      | inr h ↦ elim (cases_Bool y) [ inl k ↦ absurd (both_ways x h (g k)) | inr k ↦ h ∙ sym k ]
    ]

-- a neighbour stands at some index of the row
pub row_found : (n : ℕ) (es : List Edge) (c b : ℕ) → Rising n None es → joins es c b ≡ true → (i : ℕ) × (i < row_length es c) × (get_or (row_of es c) i 0 ≡ b)
row_found n es c b r e =
    let w = has_true (row_of es c) b (has_row n es c b r ∙ e) in (w.0, omega (arith, w.1, length_row n es c r), w.2)

-- and what stands in the row is a neighbour
pub row_joined : (n : ℕ) (es : List Edge) (c i : ℕ) → Rising n None es → i < row_length es c → joins es c (get_or (row_of es c) i 0) ≡ true
row_joined n es c i r l =
    sym (has_row n es c (get_or (row_of es c) i 0) r) ∙ has_at (row_of es c) i (omega (arith, length_row n es c r))

pub graph_clash : (n : ℕ) (es : List Edge) (a b : ℕ) → a < n → b < n → clash (graph_of n es) a b ≡ joins es a b
graph_clash n es a b x y = rw (lt-ltb a n x, lt-ltb b n y) refl

module _ (n : ℕ) (es : List Edge) (os ns : List ℕ) (r : Rising n None es) (size : length os ≡ n + 1) (off : (c : ℕ) → c ≤ n → get_or os c 0 ≡ start es c) (total : length ns ≡ start es n) (at : (c i : ℕ) → c < n → i < row_length es c → get_or ns (start es c + i) 0 ≡ get_or (row_of es c) i 0) where
  next : (c : ℕ) → c < n → get_or os (c + 1) 0 ≡ start es c + row_length es c
  next c l = off (c + 1) (omega arith) ∙ start_more es c

  -- a place of a row, from where the row begins
  placed : (c k : ℕ) → AtRow os c k → (i : ℕ) × (k ≡ start es c + i) × (i < row_length es c) × (c < n)
  placed c k w =
      let l : c < n = omega (arith, w.row) in
      let f = off c (omega arith) in
      let t = next c l in
      (k - start es c, omega (arith, w.from), omega (arith, w.from, w.to), l)

  to_joins : (c b : ℕ) → c < n → in_row os ns c b ≡ true → joins es c b ≡ true
  to_joins c b l e =
      let w = among_true ns (get_or os c 0) (get_or os (c + 1) 0) b e in
      let p = placed c w.0 (record { row = omega arith; from = w.1; to = w.2 }) in
      let q : get_or (row_of es c) p.0 0 ≡ b = sym (at c p.0 l p.2) ∙ ap (λ (v : ℕ). get_or ns v 0) (sym p.1) ∙ w.3 in
      ap (joins es c) (sym q) ∙ row_joined n es c p.0 r p.2

  to_row : (c b : ℕ) → c < n → joins es c b ≡ true → in_row os ns c b ≡ true
  to_row c b l e =
      let w = row_found n es c b r e in
      let f = off c (omega arith) in
      let t = next c l in
      among_found ns (get_or os c 0) (get_or os (c + 1) 0) b (start es c + w.0) (omega arith) (omega (arith, w.1)) (at c w.0 l w.1 ∙ w.2)

  in_row_joins : (c b : ℕ) → c < n → in_row os ns c b ≡ joins es c b
  in_row_joins c b l = same_tests (in_row os ns c b) (joins es c b) (to_joins c b l) (to_row c b l)

  laid_offset : (i : ℕ) → i ≤ rows os → SoundOffset os (length ns) i
  laid_offset i l =
      let m : i ≤ n = omega arith in
      let f = off i m in
      record {
        there = omega arith;
        starts = λ e. f ∙ ap (start es) e ∙ start_none es;
        rises = λ h. let g = off (i - 1) (omega arith) in let u = start_up es (i - 1) i (omega arith) in omega arith;
        ends = λ e. let q : i ≡ n = omega arith in let z = ap (start es) q in omega arith;
      }

  laid_entry : (c k : ℕ) → AtRow os c k → SoundEntry os ns c k
  laid_entry c k w =
      let p = placed c k w in
      let i = p.0 in
      let l = p.3 in
      let f = off c (omega arith) in
      let t = length_row n es c r in
      let q : get_or ns k 0 ≡ get_or (row_of es c) i 0 = ap (λ (v : ℕ). get_or ns v 0) p.1 ∙ at c i l p.2 in
      let m : get_or (row_of es c) i 0 < n = row_below n es c r i (omega (arith, p.2)) in
      record {
        below = omega arith;
        other = λ e. row_other n es c r i (omega (arith, p.2)) (sym q ∙ e);
        rises = λ h. let z : k - 1 ≡ start es c + (i - 1) = omega (arith, p.1) in
            let j : get_or ns (k - 1) 0 ≡ get_or (row_of es c) (i - 1) 0 = ap (λ (v : ℕ). get_or ns v 0) z ∙ at c (i - 1) l (omega (arith, p.2)) in
            let u = row_rises n es c r (i - 1) i (omega (arith, p.1)) (omega (arith, p.2)) in omega arith;
        mirror = to_row (get_or ns k 0) c (omega arith) (joins_mirror es (get_or ns k 0) c ∙ ap (joins es c) q ∙ row_joined n es c i r p.2);
      }

  laid_clash : (a b : ℕ) → clash (listed os ns) a b ≡ clash (graph_of n es) a b
  laid_clash a b =
      let z : rows os ≡ n = omega arith in
      elim (cases_lt a n) [
        | inr h ↦ rw (le-ltb a (rows os) (omega arith), le-ltb a n h) refl
        | inl h ↦ elim (cases_lt b n) [
          | inr k ↦ rw (lt-ltb a (rows os) (omega arith), lt-ltb a n h, le-ltb b (rows os) (omega arith), le-ltb b n k) refl
          | inl k ↦ rw (lt-ltb a (rows os) (omega arith), lt-ltb a n h, lt-ltb b (rows os) (omega arith), lt-ltb b n k) (in_row_joins a b h)
        ]
      ]

  laid_lists : n ≤ 1024 → length ns ≤ 32768 → Lists n es os ns
  laid_lists x y =
      record {
        sound = record { small = omega arith; short = y; offsets = laid_offset; entries = laid_entry };
        size = omega arith;
        same = laid_clash;
      }

pub all_laid : AllLaid
all_laid n es os ns g s size off =
    let r = g.rising in
    let all = start_all n es r in
    let l = length-take-le (length es + length es) ns (omega (arith, s.room)) in
    laid_lists n es os (take (length es + length es) ns) r size off (omega arith) (λ c i h x. let p = place_before es c n i h x in get_or-take (length es + length es) ns (start es c + i) 0 (omega arith) ∙ s.filled c i h x) g.small (omega (arith, g.few))

-- row c of rising edges has the neighbours of c in their order
pub row_enumerated : (n : ℕ) (es : List Edge) (c : ℕ) → Rising n None es → c < n → Enumerates (clash (graph_of n es) c) n (λ i. get_or (row_of es c) i 0) (row_length es c)
row_enumerated n es c r l =
    let t = length_row n es c r in
    record {
      rises = λ i j x y. row_rises n es c r i j x (omega arith);
      within = λ i x. row_below n es c r i (omega arith);
      member = λ i x. graph_clash n es c (get_or (row_of es c) i 0) l (row_below n es c r i (omega arith)) ∙ row_joined n es c i r x;
      onto = λ b x y. row_found n es c b r (sym (graph_clash n es c b l x) ∙ y);
    }

-- so that a row is as long as c has neighbours
pub row_counted : (n : ℕ) (es : List Edge) (c : ℕ) → Rising n None es → c < n → count (clash (graph_of n es) c) n ≡ row_length es c
row_counted n es c r l =
    count_enumerated (clash (graph_of n es) c) n (λ i. get_or (row_of es c) i 0) (row_length es c) (row_enumerated n es c r l)

pub row_is_degree : (n : ℕ) (es : List Edge) (c : ℕ) → Rising n None es → c < n → degree (graph_of n es) c ≡ row_length es c
unfolding degree
row_is_degree n es c r l = row_counted n es c r l

-- and so are the rows of every list form
lists_degree : (n : ℕ) (es : List Edge) (os ns : List ℕ) → Rising n None es → Lists n es os ns → (c : ℕ) → c < n → get_or os (c + 1) 0 - get_or os c 0 ≡ row_length es c
unfolding degree
lists_degree n es os ns r s c l =
    let z = s.size in
    row_degree os ns s.sound c (omega arith) ∙ count_same (clash (listed os ns) c) (clash (graph_of n es) c) (rows os) (λ b x. s.same c b) ∙ ap (count (clash (graph_of n es) c)) z ∙ row_counted n es c r l

lists_starts : (n : ℕ) (es : List Edge) (os ns : List ℕ) → Rising n None es → Lists n es os ns → (c : ℕ) → c ≤ n → get_or os c 0 ≡ start es c
lists_starts n es os ns r s zero l = (s.sound.offsets 0 (omega arith)).starts refl ∙ sym (start_none es)
lists_starts n es os ns r s (suc c) l =
    let z = s.size in
    let h = lists_starts n es os ns r s c (omega arith) in
    let d = lists_degree n es os ns r s c (omega arith) in
    let u = (row_stands os (length ns) s.sound.offsets c (omega arith)).up in
    let m = start_more es c in
    let e : get_or os (c + 1) 0 ≡ start es (c + 1) = omega arith in
    rw add-one at e

pub starts_told : StartsTold
starts_told n es os ns r s =
    let f = lists_starts n es os ns r s in
    let all = start_all n es r in
    let z = s.size in
    let q : get_or os n 0 ≡ length ns = (s.sound.offsets n (omega arith)).ends (sym z) in
    (f, let e = f n (omega arith) in omega arith)
