-- The places of a rising list of edges.
use Rattle.std.proofs.Common.{◌≡◌, ℕ, zero, suc, ◌+◌, ◌<◌, true, false, ◌&&◌, eqb, ◌⊎◌, List, [], ◌∷◌, length, Some, None, Option, sym, refl, ap, ◌∙◌, subst, inl, inr, add-one, arith}
use Rattle.std.proofs.lemmas.Bool.{cases_eq, cases_order, both_ways, and_parts, and_from, or_cases, or_left, or_right, eq-eqb, ne_eqb, eqb-true}
use Rattle.std.proofs.lemmas.Bool.Decides.{nat_tests}
use Rattle.graph.specs.declared.edge.Edge.{Edge}
use Rattle.graph.specs.Edges.{before, above, ends, joins, Rising}
use Rattle.cohesion.specs.Common.{edge_at, touches, far}

-- the edge before place j, o before the first
pub prev : Option Edge → List Edge → ℕ → Option Edge
prev o es zero = o
prev o [] (suc j) = o
prev o (e ∷ es) (suc j) = prev (Some e) es j

-- the edge at place j is as it has to be in a rising list
pub record RightAt (n : ℕ) (o : Option Edge) (es : List Edge) (j : ℕ) : Type 0 where
  pub smaller : (edge_at es j).a < (edge_at es j).b
  pub below : (edge_at es j).b < n
  pub next : above (prev o es j) (edge_at es j) ≡ true

pub prev_none : (o : Option Edge) (es : List Edge) → prev o es 0 ≡ o
unfolding prev
prev_none o es = refl

pub prev_more : (o : Option Edge) (es : List Edge) (j : ℕ) → j < length es → prev o es (j + 1) ≡ Some (edge_at es j)
unfolding prev
prev_more o [] j l = absurd (omega arith)
prev_more o (e ∷ es) zero l = refl
prev_more o (e ∷ es) (suc j) l = rw add-one (ap (prev (Some e) es) (sym (add-one j)) ∙ prev_more (Some e) es j (omega arith))

pub rising_at : (n : ℕ) (o : Option Edge) (es : List Edge) (j : ℕ) → Rising n o es → j < length es → RightAt n o es j
unfolding prev
rising_at n o [] j r l = absurd (omega arith)
rising_at n o (e ∷ es) zero r l = record { smaller = r.0; below = r.1; next = r.2 }
rising_at n o (e ∷ es) (suc j) r l = let h = rising_at n (Some e) es j r.3 (omega arith) in record { smaller = h.smaller; below = h.below; next = h.next }

pub rising_from : (n : ℕ) (o : Option Edge) (es : List Edge) → ((j : ℕ) → j < length es → RightAt n o es j) → Rising n o es
unfolding prev
rising_from n o [] f = tt
rising_from n o (e ∷ es) f =
    let h = f 0 (omega arith) in
    (h.smaller, h.below, h.next, rising_from n (Some e) es (λ j l. let k = f (suc j) (omega arith) in record { smaller = k.smaller; below = k.below; next = k.next }))

before_trans : (e f h : Edge) → before e f ≡ true → before f h ≡ true → before e h ≡ true
before_trans e f h x y = grind (arith, nat_tests)

before_irr : (e f : Edge) → e.a ≡ f.a → e.b ≡ f.b → before e f ≡ true → ⊥
before_irr e f x y z = grind (arith, nat_tests)

-- ends of an edge
pub ends_cases : (e : Edge) (u w : ℕ) → ends e u w ≡ true → ((u ≡ e.a) × (w ≡ e.b)) ⊎ ((u ≡ e.b) × (w ≡ e.a))
ends_cases e u w y =
    elim (or_cases (eqb u e.a && eqb w e.b) (eqb u e.b && eqb w e.a) y) [
      | inl h ↦ let p = and_parts (eqb u e.a) (eqb w e.b) h in inl (eqb-true u e.a p.0, eqb-true w e.b p.1)
      | inr h ↦ let p = and_parts (eqb u e.b) (eqb w e.a) h in inr (eqb-true u e.b p.0, eqb-true w e.a p.1)
    ]

pub ends_both : (e : Edge) (u w : ℕ) → ends e u w ≡ ends e w u
ends_both e u w = grind (arith, nat_tests)

pub ends_own : (e : Edge) → ends e e.a e.b ≡ true
ends_own e = or_left (eqb e.a e.a && eqb e.b e.b) (eqb e.a e.b && eqb e.b e.a) (and_from (eqb e.a e.a) (eqb e.b e.b) (eq-eqb e.a e.a refl) (eq-eqb e.b e.b refl))

-- u is an end, and the other end is the one that u is joined to
pub ends_far : (e : Edge) (u w : ℕ) → e.a < e.b → touches e u ≡ true → ends e u w ≡ eqb (far e u) w
ends_far e u w l y =
    elim (cases_eq e.a u) [
      | inl i ↦ let a = eq-eqb e.a u i in let b = eq-eqb u e.a (sym i) in let d = ne_eqb u e.b (omega arith) in
          elim (cases_eq w e.b) [
            | inl k ↦ let p = eq-eqb w e.b k in let q = eq-eqb e.b w (sym k) in grind (arith, nat_tests)
            | inr k ↦ let p = ne_eqb w e.b k in let q = ne_eqb e.b w (λ z. k (sym z)) in grind (arith, nat_tests)
          ]
      | inr i ↦ let a = ne_eqb e.a u i in let b = ne_eqb u e.a (λ z. i (sym z)) in
          let h : e.b ≡ u = eqb-true e.b u (elim (or_cases (eqb e.a u) (eqb e.b u) y) [ inl z ↦ absurd (both_ways (eqb e.a u) a z) | inr z ↦ z ]) in
          let d = eq-eqb u e.b (sym h) in
          elim (cases_eq w e.a) [
            | inl k ↦ let p = eq-eqb w e.a k in let q = eq-eqb e.a w (sym k) in grind (arith, nat_tests)
            | inr k ↦ let p = ne_eqb w e.a k in let q = ne_eqb e.a w (λ z. k (sym z)) in grind (arith, nat_tests)
          ]
    ]

pub ends_touch : (e : Edge) (u w : ℕ) → ends e u w ≡ true → touches e u ≡ true
ends_touch e u w y =
    elim (ends_cases e u w y) [
      | inl h ↦ or_left (eqb e.a u) (eqb e.b u) (eq-eqb e.a u (sym h.0))
      | inr h ↦ or_right (eqb e.a u) (eqb e.b u) (eq-eqb e.b u (sym h.0))
    ]

pub touch_cases : (e : Edge) (u : ℕ) → touches e u ≡ true → (e.a ≡ u) ⊎ (e.b ≡ u)
touch_cases e u y =
    elim (or_cases (eqb e.a u) (eqb e.b u) y) [ inl h ↦ inl (eqb-true e.a u h) | inr h ↦ inr (eqb-true e.b u h) ]

pub far_a : (e : Edge) (u : ℕ) → e.a ≡ u → far e u ≡ e.b
far_a e u i = let a = eq-eqb e.a u i in grind (arith, nat_tests)

pub far_b : (e : Edge) (u : ℕ) → e.a < e.b → e.b ≡ u → far e u ≡ e.a
far_b e u l i = let a = ne_eqb e.a u (omega arith) in grind (arith, nat_tests)

module _ (n : ℕ) (list : List Edge) (r : Rising n None list) where
  pub smaller : (i : ℕ) → i < length list → (edge_at list i).a < (edge_at list i).b
  smaller i l = (rising_at n None list i r l).smaller

  pub below : (i : ℕ) → i < length list → (edge_at list i).b < n
  below i l = (rising_at n None list i r l).below

  next : (i : ℕ) → i + 1 < length list → before (edge_at list i) (edge_at list (i + 1)) ≡ true
  next i l =
      let h = rising_at n None list (i + 1) r l in
      subst (λ o. above o (edge_at list (i + 1)) ≡ true) (prev_more None list i (omega arith)) h.next

  later : (i j : ℕ) → i < j → j < length list → before (edge_at list i) (edge_at list j) ≡ true
  later i zero l m = absurd (omega arith)
  later i (suc j) l m =
      let here : before (edge_at list j) (edge_at list (suc j)) ≡ true = rw (← add-one j) (next j (omega arith)) in
      elim (cases_eq i j) [
        | inl e ↦ subst (λ v. before (edge_at list v) (edge_at list (suc j)) ≡ true) (sym e) here
        | inr e ↦ before_trans (edge_at list i) (edge_at list j) (edge_at list (suc j)) (later i j (omega arith) (omega arith)) here
      ]

  -- no two places have one pair of ends
  same_ends : (i j u w : ℕ) → i < length list → j < length list → ends (edge_at list i) u w ≡ true → ends (edge_at list j) u w ≡ true → ((edge_at list i).a ≡ (edge_at list j).a) × ((edge_at list i).b ≡ (edge_at list j).b)
  same_ends i j u w l m x y =
      let si = smaller i l in let sj = smaller j m in
      elim (ends_cases (edge_at list i) u w x) [
        | inl p ↦ elim (ends_cases (edge_at list j) u w y) [
          | inl q ↦ (sym p.0 ∙ q.0, sym p.1 ∙ q.1)
          | inr q ↦ absurd (omega (arith, p.0, p.1, q.0, q.1))
        ]
        | inr p ↦ elim (ends_cases (edge_at list j) u w y) [
          | inl q ↦ absurd (omega (arith, p.0, p.1, q.0, q.1))
          | inr q ↦ (sym p.1 ∙ q.1, sym p.0 ∙ q.0)
        ]
      ]

  pub place_one : (i j u w : ℕ) → i < length list → j < length list → ends (edge_at list i) u w ≡ true → ends (edge_at list j) u w ≡ true → i ≡ j
  place_one i j u w l m x y =
      let s = same_ends i j u w l m x y in
      elim (cases_order i j) [
        | inl e ↦ e
        | inr o ↦ elim o [
          | inl h ↦ absurd (before_irr (edge_at list i) (edge_at list j) s.0 s.1 (later i j h m))
          | inr h ↦ absurd (before_irr (edge_at list j) (edge_at list i) (sym s.0) (sym s.1) (later j i h l))
        ]
      ]

-- a pair that the list joins has a place
pub joins_place : (es : List Edge) (a b : ℕ) → joins es a b ≡ true → (i : ℕ) × (i < length es) × (ends (edge_at es i) a b ≡ true)
unfolding joins
joins_place [] a b y = absurd (both_ways false refl y)
joins_place (e ∷ es) a b y =
    elim (or_cases (ends e a b) (joins es a b) y) [
      | inl h ↦ (0, omega arith, h)
      | inr h ↦ let r = joins_place es a b h in (suc r.0, omega (arith, r.1), r.2)
    ]

pub place_joins : (es : List Edge) (a b i : ℕ) → i < length es → ends (edge_at es i) a b ≡ true → joins es a b ≡ true
unfolding joins
place_joins [] a b i l y = absurd (omega arith)
place_joins (e ∷ es) a b zero l y = or_left (ends e a b) (joins es a b) y
place_joins (e ∷ es) a b (suc i) l y = or_right (ends e a b) (joins es a b) (place_joins es a b i (omega arith) y)
