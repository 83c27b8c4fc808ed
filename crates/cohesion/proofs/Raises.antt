-- Raising marks along a walk, gathering edges along it, and building the table.
use Rattle.std.proofs.Common.{◌≡◌, ℕ, ◌+◌, ◌-◌, ◌<◌, ◌≤◌, Bool, true, false, cond, ◌&&◌, ◌||◌, eqb, ltb, List, length, get_or, take, set, None, sym, refl, ap, ◌∙◌, inl, inr, arith, get_or-set_other, get_or-set_same}
use Rattle.std.proofs.lemmas.Bool.{cases_Bool, cases_eq, cases_lt, both_ways, and_from, and_left, or_cases, or_left, or_right, lt-ltb, le-ltb, eq-eqb, ne_eqb, eqb-true, cond-true, cond-false}
use Rattle.std.proofs.lemmas.List.{length-set}
use Rattle.std.proofs.lemmas.Bool.Decides.{nat_tests}
use Rattle.finite.specs.Finite.{count, has}
use Rattle.finite.proofs.Counts.{count_empty, count_less, count_same}
use Rattle.graph.specs.declared.edge.Edge.{Edge}
use Rattle.graph.specs.Edges.{Rising}
use Rattle.supports.proofs.Queues.{Queue}
use Rattle.cohesion.specs.Common.{edge_at, touches, far, last_at, Chained}
use Rattle.cohesion.proofs.Places.{smaller, below}
use Rattle.cohesion.proofs.Chains.{Walk, over, last_le, last_gap, last_more_yes, last_more_no, last_none, walk_here, walk_within}

-- the vertices seen had the mark `from`, and have the mark `to`
unfoldable pub fresh : (ℕ → Bool) → ℕ → List ℕ → ℕ → Bool
fresh seen from before w = seen w && eqb (get_or before w 0) from

pub record Raised (seen : ℕ → Bool) (n from to : ℕ) (before after : List ℕ) (total : ℕ) : Type 0 where
  pub mark : (w : ℕ) → get_or after w 0 ≡ cond (ltb w n && fresh seen from before w) to (get_or before w 0)
  pub total_is : total ≡ count (fresh seen from before) n

pub raised_none : (seen : ℕ → Bool) (n from to : ℕ) (before : List ℕ) → ((w : ℕ) → seen w ≡ false) → Raised seen n from to before before 0
unfolding fresh
raised_none seen n from to before f =
    record {
      mark = λ w. let h = f w in grind (arith, nat_tests);
      total_is = sym (count_empty (fresh seen from before) n (λ w l. and_left (seen w) (eqb (get_or before w 0) from) (f w)));
    }

pub raised_same : (seen now : ℕ → Bool) (n from to : ℕ) (before after : List ℕ) (total : ℕ) → ((w : ℕ) → now w ≡ seen w) → Raised seen n from to before after total → Raised now n from to before after total
unfolding fresh
raised_same seen now n from to before after total e r =
    record {
      mark = λ w. r.mark w ∙ ap (λ b. cond (ltb w n && (b && eqb (get_or before w 0) from)) to (get_or before w 0)) (sym (e w));
      total_is = r.total_is ∙ count_same (fresh seen from before) (fresh now from before) n (λ w l. ap (λ b. b && eqb (get_or before w 0) from) (sym (e w)));
    }

module _ (seen now : ℕ → Bool) (n from to : ℕ) (before after : List ℕ) (total x : ℕ) (e : (w : ℕ) → now w ≡ (seen w || eqb x w)) (ne : from ≡ to → ⊥) (r : Raised seen n from to before after total) where
  other : (w : ℕ) → (w ≡ x → ⊥) → fresh now from before w ≡ fresh seen from before w
  unfolding fresh
  other w d = let h = e w in let q = ne_eqb x w (λ i. d (sym i)) in grind (arith, nat_tests)

  here : x < n → (get_or after x 0 ≡ from → ⊥) → fresh now from before x ≡ fresh seen from before x
  unfolding fresh
  here l d = let m = r.mark x in let b = lt-ltb x n l in let h = e x in grind (arith, nat_tests)

  -- the mark at x is not `from`
  pub raised_no : x < n → (get_or after x 0 ≡ from → ⊥) → Raised now n from to before after total
  raised_no l d =
      let same : (w : ℕ) → fresh now from before w ≡ fresh seen from before w = λ w. elim (cases_eq w x) [ inl i ↦ ap (fresh now from before) i ∙ here l d ∙ ap (fresh seen from before) (sym i) | inr i ↦ other w i ] in
      record {
        mark = λ w. r.mark w ∙ ap (λ b. cond (ltb w n && b) to (get_or before w 0)) (sym (same w));
        total_is = r.total_is ∙ sym (count_same (fresh now from before) (fresh seen from before) n (λ w l. same w));
      }

  was : x < n → get_or after x 0 ≡ from → (fresh seen from before x ≡ false) × (get_or before x 0 ≡ from)
  was l a =
      let m = r.mark x in let b = lt-ltb x n l in
      elim (cases_Bool (fresh seen from before x)) [ inl y ↦ absurd (ne (grind (arith, nat_tests))) | inr y ↦ (y, grind (arith, nat_tests)) ]

  turned : get_or before x 0 ≡ from → fresh now from before x ≡ true
  unfolding fresh
  turned b = let h = e x in let p = eq-eqb x x refl in let q = eq-eqb (get_or before x 0) from b in grind (arith, nat_tests)

  -- the mark at x is `from`
  pub raised_yes : x < n → n ≤ length after → get_or after x 0 ≡ from → Raised now n from to before (set after x to) (total + 1)
  raised_yes l fits a =
      let v = was l a in
      let t = turned v.1 in
      let c = count_less (fresh now from before) (fresh seen from before) x n l t v.0 other in
      record {
        mark = λ w. elim (cases_eq w x) [
          | inl i ↦ let g = get_or-set_same after x to 0 (omega arith) in
              ap (λ k. get_or (set after x to) k 0) i ∙ g ∙ sym (ap (λ k. cond (ltb k n && fresh now from before k) to (get_or before k 0)) i ∙ ap (λ b. cond b to (get_or before x 0)) (and_from (ltb x n) (fresh now from before x) (lt-ltb x n l) t))
          | inr d ↦ get_or-set_other after x w to 0 d ∙ r.mark w ∙ ap (λ b. cond (ltb w n && b) to (get_or before w 0)) (sym (other w d))
        ];
        total_is = omega (arith, r.total_is);
      }

pub raised_all : (seen all : ℕ → Bool) (n from to : ℕ) (before after : List ℕ) (total : ℕ) → ((w : ℕ) → seen w ≡ all w) → Raised seen n from to before after total → ((w : ℕ) → get_or after w 0 ≡ cond (ltb w n && (all w && eqb (get_or before w 0) from)) to (get_or before w 0)) × (total ≡ count (λ w. all w && eqb (get_or before w 0) from) n)
unfolding fresh
raised_all seen all n from to before after total e r = (
  λ w. r.mark w ∙ ap (λ b. cond (ltb w n && (b && eqb (get_or before w 0) from)) to (get_or before w 0)) (e w),
  r.total_is ∙ count_same (fresh seen from before) (λ w. all w && eqb (get_or before w 0) from) n (λ w l. ap (λ b. b && eqb (get_or before w 0) from) (e w)),
)

-- the living edges at u whose far end has the mark v, from place cur on
unfoldable pub picked : List Edge → (ℕ → Bool) → List ℕ → ℕ → ℕ → ℕ → ℕ → Bool
picked list s marks v u cur c = over s cur c && (touches (edge_at list c) u && eqb (get_or marks (far (edge_at list c) u) 0) v)

pub picked_none : (list : List Edge) (s : ℕ → Bool) (marks : List ℕ) (v u cur : ℕ) → ((c : ℕ) → s c ≡ true → c < length list) → cur ≡ last_at list u (length list) → (c : ℕ) → picked list s marks v u cur c ≡ false
unfolding picked over
picked_none list s marks v u cur f e c =
    elim (cases_Bool (s c)) [
      | inr y ↦ grind (arith, nat_tests)
      | inl y ↦ elim (cases_lt c cur) [
        | inl l ↦ let h = lt-ltb c cur l in grind (arith, nat_tests)
        | inr l ↦ let h = last_gap list u (length list) c (omega arith) (f c y) in grind (arith, nat_tests)
      ]
    ]

pub picked_out : (list : List Edge) (s : ℕ → Bool) (marks : List ℕ) (v u cur : ℕ) → 0 < cur → picked list s marks v u cur (cur - 1) ≡ false
unfolding picked over
picked_out list s marks v u cur l = let h = lt-ltb (cur - 1) cur (omega arith) in grind (arith, nat_tests)

picked_step : (list : List Edge) (s : ℕ → Bool) (marks : List ℕ) (v u cur next : ℕ) → 0 < cur → next ≡ last_at list u (cur - 1) → (c : ℕ) → (c ≡ cur - 1 → ⊥) → picked list s marks v u next c ≡ picked list s marks v u cur c
unfolding picked over
picked_step list s marks v u cur next pos nx c ne =
    let low = last_le list u (cur - 1) in
    elim (cases_lt c (cur - 1)) [
      | inl l ↦ let a = lt-ltb c cur (omega arith) in
          elim (cases_lt c next) [
            | inl m ↦ let b = lt-ltb c next m in grind (arith, nat_tests)
            | inr m ↦ let h = last_gap list u (cur - 1) c (omega arith) l in grind (arith, nat_tests)
          ]
      | inr l ↦ let a = le-ltb c cur (omega arith) in let b = le-ltb c next (omega arith) in grind (arith, nat_tests)
    ]

picked_here : (list : List Edge) (s : ℕ → Bool) (marks : List ℕ) (v u cur next x : ℕ) → Walk list u cur → 0 < cur → next ≡ last_at list u (cur - 1) → x ≡ far (edge_at list (cur - 1)) u → s (cur - 1) ≡ true → get_or marks x 0 ≡ v → picked list s marks v u next (cur - 1) ≡ true
unfolding picked over
picked_here list s marks v u cur next x wk pos nx ex y m =
    let a = le-ltb (cur - 1) next (omega (arith, last_le list u (cur - 1))) in
    let t = walk_here list u cur wk pos in
    let q = eq-eqb (get_or marks (far (edge_at list (cur - 1)) u) 0) v (ap (λ i. get_or marks i 0) (sym ex) ∙ m) in
    grind (arith, nat_tests)

picked_not : (list : List Edge) (s : ℕ → Bool) (marks : List ℕ) (v u cur next x : ℕ) → x ≡ far (edge_at list (cur - 1)) u → (s (cur - 1) ≡ true → get_or marks x 0 ≡ v → ⊥) → picked list s marks v u next (cur - 1) ≡ false
unfolding picked over
picked_not list s marks v u cur next x ex d =
    elim (cases_Bool (s (cur - 1))) [
      | inr y ↦ grind (arith, nat_tests)
      | inl y ↦ let q = ne_eqb (get_or marks (far (edge_at list (cur - 1)) u) 0) v (λ z. d y (ap (λ i. get_or marks i 0) ex ∙ z)) in grind (arith, nat_tests)
    ]

pub picked_yes : (list : List Edge) (s : ℕ → Bool) (marks : List ℕ) (v u cur next x : ℕ) → Walk list u cur → 0 < cur → next ≡ last_at list u (cur - 1) → x ≡ far (edge_at list (cur - 1)) u → s (cur - 1) ≡ true → get_or marks x 0 ≡ v → (c : ℕ) → picked list s marks v u next c ≡ (picked list s marks v u cur c || eqb (cur - 1) c)
picked_yes list s marks v u cur next x wk pos nx ex y m c =
    elim (cases_eq c (cur - 1)) [
      | inl i ↦ let q = eq-eqb (cur - 1) c (sym i) in let h = ap (picked list s marks v u next) i ∙ picked_here list s marks v u cur next x wk pos nx ex y m in grind (arith, nat_tests)
      | inr i ↦ let q = ne_eqb (cur - 1) c (λ z. i (sym z)) in let h = picked_step list s marks v u cur next pos nx c i in grind (arith, nat_tests)
    ]

pub picked_no : (list : List Edge) (s : ℕ → Bool) (marks : List ℕ) (v u cur next x : ℕ) → 0 < cur → next ≡ last_at list u (cur - 1) → x ≡ far (edge_at list (cur - 1)) u → (s (cur - 1) ≡ true → get_or marks x 0 ≡ v → ⊥) → (c : ℕ) → picked list s marks v u next c ≡ picked list s marks v u cur c
picked_no list s marks v u cur next x pos nx ex d c =
    elim (cases_eq c (cur - 1)) [
      | inl i ↦ ap (picked list s marks v u next) i ∙ picked_not list s marks v u cur next x ex d ∙ sym (picked_out list s marks v u cur pos) ∙ ap (picked list s marks v u cur) (sym i)
      | inr i ↦ picked_step list s marks v u cur next pos nx c i
    ]

pub picked_all : (list : List Edge) (s : ℕ → Bool) (marks : List ℕ) (v u c : ℕ) → picked list s marks v u 0 c ≡ (s c && (touches (edge_at list c) u && eqb (get_or marks (far (edge_at list c) u) 0) v))
unfolding picked over
picked_all list s marks v u c = let h = le-ltb c 0 (omega arith) in grind (arith, nat_tests)

-- the table after j edges
pub record Chaining (n : ℕ) (list : List Edge) (table : List ℕ) (j : ℕ) : Type 0 where
  pub long : 33792 ≤ length table
  pub heads : (u : ℕ) → u < n → get_or table u 0 ≡ last_at list u j
  pub firsts : (e : ℕ) → e < j → get_or table (1024 + e) 0 ≡ last_at list (edge_at list e).a e
  pub seconds : (e : ℕ) → e < j → get_or table (17408 + e) 0 ≡ last_at list (edge_at list e).b e

pub chaining_none : (n : ℕ) (list : List Edge) (table : List ℕ) → 33792 ≤ length table → ((u : ℕ) → u < n → get_or table u 0 ≡ 0) → Chaining n list table 0
chaining_none n list table l z =
    record { long = l; heads = λ u h. z u h ∙ sym (last_none list u); firsts = λ e h. absurd (omega arith); seconds = λ e h. absurd (omega arith) }

-- four places are written
abbrev pub set4 : List ℕ → ℕ → ℕ → ℕ → ℕ → ℕ → ℕ → ℕ → List ℕ
set4 t p va q vb a b w = set (set (set (set t p va) q vb) a w) b w

module _ (t : List ℕ) (p va q vb a b w k : ℕ) where
  set4_other : (k ≡ p → ⊥) → (k ≡ q → ⊥) → (k ≡ a → ⊥) → (k ≡ b → ⊥) → get_or (set4 t p va q vb a b w) k 0 ≡ get_or t k 0
  set4_other np nq na nb =
      get_or-set_other (set (set (set t p va) q vb) a w) b k w 0 nb ∙ get_or-set_other (set (set t p va) q vb) a k w 0 na ∙ get_or-set_other (set t p va) q k vb 0 nq ∙ get_or-set_other t p k va 0 np

  set4_q : q < length t → k ≡ q → (q ≡ a → ⊥) → (q ≡ b → ⊥) → get_or (set4 t p va q vb a b w) k 0 ≡ vb
  set4_q l e na nb =
      ap (λ i. get_or (set4 t p va q vb a b w) i 0) e ∙ get_or-set_other (set (set (set t p va) q vb) a w) b q w 0 nb ∙ get_or-set_other (set (set t p va) q vb) a q w 0 na ∙ get_or-set_same (set t p va) q vb 0 (simp length-set l)

  set4_p : p < length t → k ≡ p → (p ≡ q → ⊥) → (p ≡ a → ⊥) → (p ≡ b → ⊥) → get_or (set4 t p va q vb a b w) k 0 ≡ va
  set4_p l e nq na nb =
      ap (λ i. get_or (set4 t p va q vb a b w) i 0) e ∙ get_or-set_other (set (set (set t p va) q vb) a w) b p w 0 nb ∙ get_or-set_other (set (set t p va) q vb) a p w 0 na ∙ get_or-set_other (set t p va) q p vb 0 nq ∙ get_or-set_same t p va 0 l

  set4_b : b < length t → k ≡ b → get_or (set4 t p va q vb a b w) k 0 ≡ w
  set4_b l e = ap (λ i. get_or (set4 t p va q vb a b w) i 0) e ∙ get_or-set_same (set (set (set t p va) q vb) a w) b w 0 (simp length-set l)

  set4_a : a < length t → k ≡ a → (a ≡ b → ⊥) → get_or (set4 t p va q vb a b w) k 0 ≡ w
  set4_a l e nb =
      ap (λ i. get_or (set4 t p va q vb a b w) i 0) e ∙ get_or-set_other (set (set (set t p va) q vb) a w) b a w 0 nb ∙ get_or-set_same (set (set t p va) q vb) a w 0 (simp length-set l)

pub chaining_more : (n : ℕ) (list : List Edge) (table : List ℕ) (j va vb : ℕ) → n ≤ 1024 → Rising n None list → length list ≤ 16384 → j < length list → Chaining n list table j → va ≡ get_or table (edge_at list j).a 0 → vb ≡ get_or (set table (1024 + j) va) (edge_at list j).b 0 → Chaining n list (set4 table (1024 + j) va (17408 + j) vb (edge_at list j).a (edge_at list j).b (j + 1)) (j + 1)
chaining_more n list table j va vb small r few l c ea eb =
    let a = (edge_at list j).a in
    let b = (edge_at list j).b in
    let lt = smaller n list r j l in
    let lb = below n list r j l in
    let vb-is : vb ≡ last_at list b j = eb ∙ get_or-set_other table (1024 + j) b va 0 (omega arith) ∙ c.heads b lb in
    let va-is : va ≡ last_at list a j = ea ∙ c.heads a (omega arith) in
    record {
      long = simp length-set c.long;
      heads = λ u h. elim (cases_eq u b) [
        | inl e ↦ set4_b table (1024 + j) va (17408 + j) vb a b (j + 1) u (omega (arith, c.long)) e ∙ sym (last_more_yes list u j (or_right (eqb a u) (eqb b u) (eq-eqb b u (sym e))))
        | inr nb ↦ elim (cases_eq u a) [
          | inl e ↦ set4_a table (1024 + j) va (17408 + j) vb a b (j + 1) u (omega (arith, c.long)) e (omega arith) ∙ sym (last_more_yes list u j (or_left (eqb a u) (eqb b u) (eq-eqb a u (sym e))))
          | inr na ↦ set4_other table (1024 + j) va (17408 + j) vb a b (j + 1) u (omega arith) (omega arith) na nb ∙ c.heads u h ∙ sym (last_more_no list u j (or_from' (eqb a u) (eqb b u) (ne_eqb a u (λ z. na (sym z))) (ne_eqb b u (λ z. nb (sym z)))))
        ]
      ];
      firsts = λ i h. elim (cases_eq i j) [
        | inl e ↦ set4_p table (1024 + j) va (17408 + j) vb a b (j + 1) (1024 + i) (omega (arith, c.long)) (omega arith) (omega arith) (omega arith) (omega arith) ∙ va-is ∙ ap (λ k. last_at list (edge_at list k).a k) (sym e)
        | inr ne ↦ set4_other table (1024 + j) va (17408 + j) vb a b (j + 1) (1024 + i) (omega arith) (omega arith) (omega arith) (omega arith) ∙ c.firsts i (omega arith)
      ];
      seconds = λ i h. elim (cases_eq i j) [
        | inl e ↦ set4_q table (1024 + j) va (17408 + j) vb a b (j + 1) (17408 + i) (omega (arith, c.long)) (omega arith) (omega arith) (omega arith) ∙ vb-is ∙ ap (λ k. last_at list (edge_at list k).b k) (sym e)
        | inr ne ↦ set4_other table (1024 + j) va (17408 + j) vb a b (j + 1) (17408 + i) (omega arith) (omega arith) (omega arith) (omega arith) ∙ c.seconds i (omega arith)
      ];
    }
  where
    or_from' : (x y : Bool) → x ≡ false → y ≡ false → (x || y) ≡ false
    or_from' x y p q = grind (arith, nat_tests)

pub chaining_all : (n : ℕ) (list : List Edge) (table : List ℕ) (j : ℕ) → n ≤ 1024 → Rising n None list → length list ≤ 16384 → j ≡ length list → Chaining n list table j → Chained n list table
chaining_all n list table j small r few e c =
    record {
      listing = record { small = small; rising = r };
      few = few;
      long = c.long;
      heads = λ u h. c.heads u h ∙ ap (last_at list u) e;
      firsts = λ i h. c.firsts i (omega arith);
      seconds = λ i h. c.seconds i (omega arith);
    }

-- where a walk stands
module _ (n : ℕ) (list : List Edge) (table : List ℕ) (u cur : ℕ) (ch : Chained n list table) (wk : Walk list u cur) (pos : 0 < cur) where
  pub stand_within : cur - 1 < length list
  stand_within = omega (arith, walk_within list u cur wk)

  pub stand_smaller : (edge_at list (cur - 1)).a < (edge_at list (cur - 1)).b
  stand_smaller = smaller n list ch.listing.rising (cur - 1) stand_within

  pub stand_far : (w : ℕ) → w ≡ far (edge_at list (cur - 1)) u → w < n
  stand_far w e =
      let a = stand_smaller in
      let b = below n list ch.listing.rising (cur - 1) stand_within in
      elim (cases_Bool (eqb (edge_at list (cur - 1)).a u)) [
        | inl y ↦ omega (arith, e, cond-true (eqb (edge_at list (cur - 1)).a u) (edge_at list (cur - 1)).b (edge_at list (cur - 1)).a y)
        | inr y ↦ omega (arith, e, cond-false (eqb (edge_at list (cur - 1)).a u) (edge_at list (cur - 1)).b (edge_at list (cur - 1)).a y)
      ]

  pub stand_next : (r : ℕ) → r ≡ cond (eqb (edge_at list (cur - 1)).a u) (get_or table (1024 + (cur - 1)) 0) (get_or table (17408 + (cur - 1)) 0) → r ≡ last_at list u (cur - 1)
  stand_next r e =
      let one = get_or table (1024 + (cur - 1)) 0 in
      let two = get_or table (17408 + (cur - 1)) 0 in
      elim (cases_Bool (eqb (edge_at list (cur - 1)).a u)) [
        | inl y ↦ e ∙ cond-true (eqb (edge_at list (cur - 1)).a u) one two y ∙ ch.firsts (cur - 1) stand_within ∙ ap (λ v. last_at list v (cur - 1)) (eqb-true (edge_at list (cur - 1)).a u y)
        | inr y ↦ e ∙ cond-false (eqb (edge_at list (cur - 1)).a u) one two y ∙ ch.seconds (cur - 1) stand_within ∙ ap (λ v. last_at list v (cur - 1)) (elim (or_cases (eqb (edge_at list (cur - 1)).a u) (eqb (edge_at list (cur - 1)).b u) (walk_here list u cur wk pos)) [
          | inl z ↦ absurd (both_ways (eqb (edge_at list (cur - 1)).a u) y z)
          | inr z ↦ eqb-true (edge_at list (cur - 1)).b u z
        ])
      ]

  pub stand_less : (r : ℕ) → r ≡ cond (eqb (edge_at list (cur - 1)).a u) (get_or table (1024 + (cur - 1)) 0) (get_or table (17408 + (cur - 1)) 0) → r < cur
  stand_less r e = omega (arith, stand_next r e, last_le list u (cur - 1))

-- the edge where the walk stands is not yet gathered
pub picked_new : (m : ℕ) (list : List Edge) (s : ℕ → Bool) (marks : List ℕ) (v u cur x : ℕ) (old out : List ℕ) (start len : ℕ) → Walk list u cur → 0 < cur → x ≡ far (edge_at list (cur - 1)) u → s (cur - 1) ≡ true → get_or marks x 0 ≡ v → Queue m (picked list s marks v u cur) old out start len → ((c : ℕ) → picked list s marks v u 0 c ≡ true → has (take start old) c ≡ false) → has (take len out) (cur - 1) ≡ false
picked_new m list s marks v u cur x old out start len wk pos ex y mk q fr =
    let a = picked_out list s marks v u cur pos in
    let z = fr (cur - 1) (picked_all list s marks v u (cur - 1) ∙ and_from (s (cur - 1)) (touches (edge_at list (cur - 1)) u && eqb (get_or marks (far (edge_at list (cur - 1)) u) 0) v) y (and_from (touches (edge_at list (cur - 1)) u) (eqb (get_or marks (far (edge_at list (cur - 1)) u) 0) v) (walk_here list u cur wk pos) (eq-eqb (get_or marks (far (edge_at list (cur - 1)) u) 0) v (ap (λ i. get_or marks i 0) (sym ex) ∙ mk)))) in
    let h = q.queue (cur - 1) in
    h ∙ ap (λ (b : Bool). b || picked list s marks v u cur (cur - 1)) z ∙ a
