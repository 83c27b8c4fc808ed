-- Two rounds of marks: 1 at the vertices joined to one end of an edge, 2 at those joined to both.
use Rattle.std.proofs.Common.{◌≡◌, ℕ, ◌<◌, ◌≤◌, Bool, true, false, cond, ◌&&◌, ◌||◌, eqb, ltb, List, [], length, get_or, take, None, sym, ap, ◌∙◌, inl, inr, arith}
use Rattle.std.proofs.lemmas.List.{length-take-le}
use Rattle.std.proofs.lemmas.Bool.{cases_Bool, cases_lt, and_parts, and_left, lt-ltb, le-ltb, cond-true, cond-false}
use Rattle.std.proofs.lemmas.Bool.Decides.{nat_tests}
use Rattle.finite.specs.Finite.{count, has}
use Rattle.finite.proofs.Counts.{count_same, has_none, or_no}
use Rattle.graph.specs.declared.edge.Edge.{Edge}
use Rattle.graph.specs.Edges.{Rising}
use Rattle.supports.specs.Peel.{Losers}
use Rattle.supports.proofs.Queues.{Queue}
use Rattle.cohesion.specs.Common.{edge_at, linked, shared, common, touches, far}
use Rattle.cohesion.proofs.Places.{smaller, below}
use Rattle.cohesion.proofs.Links.{leans, leans_once, edge_losers, shared_swap}
use Rattle.cohesion.proofs.Raises.{picked, picked_all}

-- the vertices of p with the mark `from` get the mark `to`
abbrev pub Round : ℕ → (ℕ → Bool) → ℕ → ℕ → List ℕ → List ℕ → Type 0
Round n p from to before after =
    (w : ℕ) → get_or after w 0 ≡ cond (ltb w n && (p w && eqb (get_or before w 0) from)) to (get_or before w 0)

module _ (n : ℕ) (p q : ℕ → Bool) (zs os ts : List ℕ) (clear : (w : ℕ) → w < n → get_or zs w 0 ≡ 0) (one : Round n p 0 1 zs os) (two : Round n q 1 2 os ts) where
  pub mark_one : (w : ℕ) → w < n → eqb (get_or os w 0) 1 ≡ p w
  mark_one w l = let a = clear w l in let b = one w in let h = lt-ltb w n l in grind (arith, nat_tests)

  pub mark_two : (w : ℕ) → w < n → eqb (get_or ts w 0) 2 ≡ (p w && q w)
  mark_two w l =
      let a = clear w l in let b = one w in let c = two w in let h = lt-ltb w n l in
      elim (cases_Bool (p w)) [
        | inl y ↦ elim (cases_Bool (q w)) [ inl z ↦ grind (arith, nat_tests) | inr z ↦ grind (arith, nat_tests) ]
        | inr y ↦ grind (arith, nat_tests)
      ]

  pub counted_both : (r : ℕ) → r ≡ count (λ w. q w && eqb (get_or os w 0) 1) n → r ≡ count (λ w. q w && p w) n
  counted_both r e = e ∙ count_same (λ w. q w && eqb (get_or os w 0) 1) (λ w. q w && p w) n (λ w l. ap (λ b. q w && b) (mark_one w l))

  pub rounds_rest : (k : ℕ) → n ≤ k → get_or ts k 0 ≡ get_or zs k 0
  rounds_rest k l =
      let h = le-ltb k n l in
      two k ∙ cond-false (ltb k n && (q k && eqb (get_or os k 0) 1)) 2 (get_or os k 0) (and_left (ltb k n) (q k && eqb (get_or os k 0) 1) h)
      ∙ one k ∙ cond-false (ltb k n && (p k && eqb (get_or zs k 0) 0)) 1 (get_or zs k 0) (and_left (ltb k n) (p k && eqb (get_or zs k 0) 0) h)

  -- cleared again, the marks are as they were
  pub rounds_same : (after : List ℕ) → ((k : ℕ) → get_or after k 0 ≡ cond (ltb k n) 0 (get_or ts k 0)) → (k : ℕ) → get_or after k 0 ≡ get_or zs k 0
  rounds_same after wiped k =
      elim (cases_lt k n) [
        | inl l ↦ wiped k ∙ cond-true (ltb k n) 0 (get_or ts k 0) (lt-ltb k n l) ∙ sym (clear k l)
        | inr l ↦ let h = le-ltb k n l in
            wiped k ∙ cond-false (ltb k n) 0 (get_or ts k 0) h
            ∙ two k ∙ cond-false (ltb k n && (q k && eqb (get_or os k 0) 1)) 2 (get_or os k 0) (and_left (ltb k n) (q k && eqb (get_or os k 0) 1) h)
            ∙ one k ∙ cond-false (ltb k n && (p k && eqb (get_or zs k 0) 0)) 1 (get_or zs k 0) (and_left (ltb k n) (p k && eqb (get_or zs k 0) 0) h)
      ]

-- cleared marks, where those beyond n stayed
pub wiped_same : (n : ℕ) (zs ts after : List ℕ) → ((w : ℕ) → w < n → get_or zs w 0 ≡ 0) → ((k : ℕ) → n ≤ k → get_or ts k 0 ≡ get_or zs k 0) → ((k : ℕ) → get_or after k 0 ≡ cond (ltb k n) 0 (get_or ts k 0)) → (k : ℕ) → get_or after k 0 ≡ get_or zs k 0
wiped_same n zs ts after clear rest wiped k =
    elim (cases_lt k n) [
      | inl l ↦ wiped k ∙ cond-true (ltb k n) 0 (get_or ts k 0) (lt-ltb k n l) ∙ sym (clear k l)
      | inr l ↦ wiped k ∙ cond-false (ltb k n) 0 (get_or ts k 0) (le-ltb k n l) ∙ rest k l
    ]

-- the support of the edge at place i
pub counted_common : (n : ℕ) (list : List Edge) (s : ℕ → Bool) (i : ℕ) (zs os : List ℕ) (r : ℕ) → ((w : ℕ) → w < n → get_or zs w 0 ≡ 0) → Round n (linked list s (edge_at list i).a) 0 1 zs os → r ≡ count (λ w. linked list s (edge_at list i).b w && eqb (get_or os w 0) 1) n → r ≡ common n list s i
unfolding common shared
counted_common n list s i zs os r clear one e =
    let p = linked list s (edge_at list i).a in
    let q = linked list s (edge_at list i).b in
    e ∙ count_same (λ w. q w && eqb (get_or os w 0) 1) (λ w. q w && p w) n (λ w l. ap (λ b. q w && b) (mark_at w l)) ∙ shared_swap n list s (edge_at list i).b (edge_at list i).a
  where
    mark_at : (w : ℕ) → w < n → eqb (get_or os w 0) 1 ≡ linked list s (edge_at list i).a w
    mark_at w l = let a = clear w l in let b = one w in let h = lt-ltb w n l in grind (arith, nat_tests)

module _ (n : ℕ) (list : List Edge) (r : Rising n None list) (s : ℕ → Bool) (x : ℕ) (lx : x < length list) (sx : s x ≡ true) (inside : (c : ℕ) → s c ≡ true → c < length list) (zs os ts : List ℕ) (clear : (w : ℕ) → w < n → get_or zs w 0 ≡ 0) (one : Round n (linked list s (edge_at list x).a) 0 1 zs os) (two : Round n (linked list s (edge_at list x).b) 1 2 os ts) where
  far_below : (c u : ℕ) → c < length list → far (edge_at list c) u < n
  far_below c u l =
      let a = smaller n list r c l in
      let b = below n list r c l in
      elim (cases_Bool (eqb (edge_at list c).a u)) [
        | inl y ↦ omega (arith, cond-true (eqb (edge_at list c).a u) (edge_at list c).b (edge_at list c).a y)
        | inr y ↦ omega (arith, cond-false (eqb (edge_at list c).a u) (edge_at list c).b (edge_at list c).a y)
      ]

  -- what is gathered leans on x
  pub picked_leans : (u c : ℕ) → picked list s ts 2 u 0 c ≡ leans n list r s x lx sx u c
  picked_leans u c =
      elim (cases_Bool (s c)) [
        | inl y ↦ picked_all list s ts 2 u c ∙ ap (λ b. s c && (touches (edge_at list c) u && b)) (mark_two n (linked list s (edge_at list x).a) (linked list s (edge_at list x).b) zs os ts clear one two (far (edge_at list c) u) (far_below c u (inside c y)))
        | inr y ↦ picked_all list s ts 2 u c ∙ and_left (s c) (touches (edge_at list c) u && eqb (get_or ts (far (edge_at list c) u) 0) 2) y ∙ sym (and_left (s c) (touches (edge_at list c) u && (linked list s (edge_at list x).a (far (edge_at list c) u) && linked list s (edge_at list x).b (far (edge_at list c) u))) y)
      ]

  -- nothing is gathered twice
  pub picked_once : (c : ℕ) → picked list s ts 2 (edge_at list x).a 0 c ≡ true → picked list s ts 2 (edge_at list x).b 0 c ≡ true → ⊥
  picked_once c p q =
      let y = (and_parts (s c) (touches (edge_at list c) (edge_at list x).a && eqb (get_or ts (far (edge_at list c) (edge_at list x).a) 0) 2) (sym (picked_all list s ts 2 (edge_at list x).a c) ∙ p)).0 in
      leans_once n list r s x lx sx c (inside c y) (sym (picked_leans (edge_at list x).a c) ∙ p) (sym (picked_leans (edge_at list x).b c) ∙ q)

  pub gathered_fresh : (old out : List ℕ) (len : ℕ) → Queue (length list) (picked list s ts 2 (edge_at list x).a 0) old out 0 len → (c : ℕ) → picked list s ts 2 (edge_at list x).b 0 c ≡ true → has (take len out) c ≡ false
  gathered_fresh old out len q c y =
      let h = q.queue c ∙ or_no (has [] c) (picked list s ts 2 (edge_at list x).a 0 c) (has_none c) in
      elim (cases_Bool (has (take len out) c)) [ inr z ↦ z | inl z ↦ absurd (picked_once c (sym h ∙ z) y) ]

  pub gathered_losers : (old mid out : List ℕ) (some len : ℕ) → Queue (length list) (picked list s ts 2 (edge_at list x).a 0) old mid 0 some → Queue (length list) (picked list s ts 2 (edge_at list x).b 0) mid out some len → Losers (common n list) (length list) s x (take len out)
  gathered_losers old mid out some len p q =
      edge_losers n list r s x lx sx (take len out) (q.many ∙ sym (length-take-le len out q.fits)) inside (λ c.
      let h = p.queue c ∙ or_no (has [] c) (picked list s ts 2 (edge_at list x).a 0 c) (has_none c) ∙ picked_leans (edge_at list x).a c in
      q.queue c ∙ ap (λ b. b || picked list s ts 2 (edge_at list x).b 0 c) h ∙ ap (λ b. leans n list r s x lx sx (edge_at list x).a c || b) (picked_leans (edge_at list x).b c))
