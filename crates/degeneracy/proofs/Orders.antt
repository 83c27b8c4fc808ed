use Rattle.std.proofs.Common.{◌≡◌, ℕ, zero, suc, ◌≤◌, Bool, true, false, not, List, [], ◌∷◌, ◌++◌, length, get_or, take, sym, refl, ap, ◌∙◌, subst, inl, inr, add-one, arith}
use Rattle.std.proofs.lemmas.List.{take_all, take_more}
use Rattle.std.proofs.lemmas.Bool.{cases_lt, cases_order, and_parts, and_from, both_ways, not-true, not_from_false}
use Rattle.std.proofs.lemmas.Bool.Decides.{nat_tests}
use Rattle.finite.specs.Finite.{has, Fewest}
use Rattle.finite.proofs.Counts.{has_none, has_push, first_at}
use Rattle.graph.specs.Graph.{Graph, held, inside}
use Rattle.graph.proofs.Graphs.{held_below, inside_mono}
use Rattle.degeneracy.specs.Order.{survivors, met, Next, IsOrder, IsPeak}
use Rattle.graph.specs.Degeneracy.{IsDegeneracy}

pub survivors_held : (g : Graph) (p : List ℕ) (c : ℕ) → survivors g p c ≡ true → held g c ≡ true
unfolding survivors
survivors_held g p c e = (and_parts (held g c) (not (has p c)) e).0

pub survivors_not : (g : Graph) (p : List ℕ) (c : ℕ) → survivors g p c ≡ true → has p c ≡ false
unfolding survivors
survivors_not g p c e = not-true (has p c) (and_parts (held g c) (not (has p c)) e).1

pub survivors_from : (g : Graph) (p : List ℕ) (c : ℕ) → held g c ≡ true → has p c ≡ false → survivors g p c ≡ true
unfolding survivors
survivors_from g p c y e = and_from (held g c) (not (has p c)) y (not_from_false (has p c) e)

pub survivors_none : (g : Graph) (c : ℕ) → survivors g [] c ≡ held g c
unfolding survivors
survivors_none g c = let h = has_none c in grind (arith, nat_tests)

pub survivors_self : (g : Graph) (p : List ℕ) (x : ℕ) → survivors g (p ++ x ∷ []) x ≡ false
unfolding survivors
survivors_self g p x = let h = has_push p x x in grind (arith, nat_tests)

pub survivors_other : (g : Graph) (p : List ℕ) (x c : ℕ) → (c ≡ x → ⊥) → survivors g p c ≡ survivors g (p ++ x ∷ []) c
unfolding survivors
survivors_other g p x c ne = let h = has_push p x c in grind (arith, nat_tests)

-- the largest count met is the degeneracy
pub peak_degeneracy : (g : Graph) (p : List ℕ) (m : ℕ) → IsOrder g p → IsPeak g p m → IsDegeneracy g m
unfolding met
peak_degeneracy g p m o k =
    record {
      sparse = λ s f a y. let w = first_at s p a (o.all a (f a y)) y in
          (get_or p w.0 0, w.2, (let h = inside_mono g s (survivors g (take w.0 p)) (get_or p w.0 0) (λ b t. survivors_from g (take w.0 p) b (f b t) (w.3 b t)) in let j = k.above w.0 w.1 in omega arith));
      least = λ e sp. elim k.reached [
        | inl z ↦ omega arith
        | inr r ↦ let n = o.each r.0 r.1 in
            let s = survivors g (take r.0 p) in
            let v = sp s (survivors_held g (take r.0 p)) (get_or p r.0 0) n.member in
            let h = n.least v.0 (held_below g v.0 (survivors_held g (take r.0 p) v.0 v.1)) v.1 in
            omega (arith, r.2, v.2)
      ];
    }

fewest_one : (s : ℕ → Bool) (f : ℕ → ℕ) (n x y : ℕ) → Fewest s f n x → Fewest s f n y → x ≡ y
fewest_one s f n x y a b =
    elim (cases_order x y) [
      | inl e ↦ e
      | inr r ↦ elim r [
        | inl l ↦ absurd (let h = b.lowest x l a.member in let k = a.least y b.within b.member in omega arith)
        | inr l ↦ absurd (let h = a.lowest y l b.member in let k = b.least x a.within a.member in omega arith)
      ]
    ]

fronts : (g : Graph) (p q : List ℕ) → IsOrder g p → IsOrder g q → (i : ℕ) → i ≤ length p → i ≤ length q → take i p ≡ take i q
fronts g p q a b zero l m = refl
fronts g p q a b (suc i) l m =
    let h = fronts g p q a b i (omega arith) (omega arith) in
    let u : Next g (survivors g (take i q)) (get_or p i 0) = subst (λ t. Next g (survivors g t) (get_or p i 0)) h (a.each i l) in
    let e = fewest_one (survivors g (take i q)) (inside g (survivors g (take i q))) g.size (get_or p i 0) (get_or q i 0) u (b.each i m) in
    let v = take_more p i 0 l in
    let w = take_more q i 0 m in
    rw (← add-one) (v ∙ ap (λ t. t ++ get_or p i 0 ∷ []) h ∙ ap (λ x. take i q ++ x ∷ []) e ∙ sym w)

shorter : (g : Graph) (p q : List ℕ) → IsOrder g p → IsOrder g q → length p ≤ length q
shorter g p q a b =
    elim (cases_lt (length q) (length p)) [
      | inr h ↦ h
      | inl l ↦ absurd (let f = fronts g p q a b (length q) (omega arith) (omega arith) ∙ take_all (length q) q (omega arith) in
          let n = (a.each (length q) l).member in
          let t = subst (λ t. survivors g t (get_or p (length q) 0) ≡ true) f n in
          both_ways (has q (get_or p (length q) 0)) (survivors_not g q (get_or p (length q) 0) t) (b.all (get_or p (length q) 0) (survivors_held g q (get_or p (length q) 0) t)))
    ]

-- there is one order
pub order_one : (g : Graph) (p q : List ℕ) → IsOrder g p → IsOrder g q → p ≡ q
order_one g p q a b =
    let l = shorter g p q a b in
    let m = shorter g q p b a in
    sym (take_all (length p) p (omega arith)) ∙ fronts g p q a b (length p) (omega arith) l ∙ take_all (length p) q m

pub degeneracy_one : (g : Graph) (d e : ℕ) → IsDegeneracy g d → IsDegeneracy g e → d ≡ e
degeneracy_one g d e a b = omega (arith, a.least e b.sparse, b.least d a.sparse)

pub degeneracy_none : (g : Graph) → ((c : ℕ) → held g c ≡ false) → IsDegeneracy g 0
degeneracy_none g none =
    record { sparse = λ s f a y. absurd (both_ways (held g a) (none a) (f a y)); least = λ e sp. omega arith }
