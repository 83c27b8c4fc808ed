-- The later neighbours of the vertices of a list.
use Rattle.std.proofs.Common.{◌≡◌, ℕ, zero, suc, ◌+◌, ◌-◌, ◌<◌, ◌≤◌, Bool, true, false, cond, ◌&&◌, ◌||◌, eqb, ◌⊎◌, List, [], ◌∷◌, ◌++◌, length, get_or, take, drop, sym, refl, ap, ◌∙◌, subst, inl, inr, arith, length-drop, drop-cons}
use Rattle.std.proofs.lemmas.List.{append-nil, length_push, get_or-drop, get_or-take, length-take-le}
use Rattle.std.proofs.lemmas.Bool.{cases_Bool, cases_eq, cases_lt, cases_order, both_ways, false≢true, eqb-true, and_parts, and_from}
use Rattle.finite.specs.Finite.{count, has}
use Rattle.finite.proofs.Counts.{has_push, has_true, has_at, push_before, push_here}
use Rattle.finite.proofs.Pigeons.{count_inject}
use Rattle.graph.specs.Graph.{Graph, clash, inside}
use Rattle.graph.proofs.Graphs.{held_below}
use Rattle.degeneracy.specs.Order.{IsOrder, survivors, met}
use Rattle.degeneracy.proofs.Orders.{survivors_held}
use Rattle.degeneracy.proofs.Plans.{gone_after, lives_before}
use Rattle.climbing.specs.Climbs.{EachOnce, backward, last, plus, later, later_list}

-- no number stands in the list twice
abbrev pub Apart : List ℕ → Type 0
Apart xs = (i j : ℕ) → i < j → j < length xs → get_or xs i 0 ≡ get_or xs j 0 → ⊥

pub differ : (q : List ℕ) → Apart q → (i j : ℕ) → i < length q → j < length q → (i ≡ j → ⊥) → get_or q i 0 ≡ get_or q j 0 → ⊥
differ q a i j l h ne e =
    elim (cases_order i j) [ inl x ↦ ne x | inr y ↦ elim y [ inl x ↦ a i j x h e | inr x ↦ a j i x l (sym e) ] ]

push_apart : (xs : List ℕ) (x : ℕ) → Apart xs → has xs x ≡ false → Apart (xs ++ x ∷ [])
push_apart xs x a f i j l k e =
    let n = length_push xs x in
    elim (cases_lt j (length xs)) [
      | inl h ↦ a i j l h (sym (push_before xs x i (omega arith)).1 ∙ e ∙ (push_before xs x j h).1)
      | inr h ↦ let q : j ≡ length xs = omega arith in
          let lt : i < length xs = omega arith in
          let v : get_or xs i 0 ≡ x = sym (push_before xs x i lt).1 ∙ e ∙ ap (λ (m : ℕ). get_or (xs ++ x ∷ []) m 0) q ∙ (push_here xs x).1 in
          both_ways (has xs x) f (ap (has xs) (sym v) ∙ has_at xs i lt)
    ]

pub apart_drop : (k : ℕ) (p : List ℕ) → Apart p → Apart (drop k p)
apart_drop k p a i j l h e =
    let n = length-drop k p in
    a (k + i) (k + j) (omega arith) (omega arith) (sym (get_or-drop k p i 0) ∙ e ∙ get_or-drop k p j 0)

-- ---- the numbers that pass, the last first

pub backward_none : (t : ℕ → Bool) → backward t [] ≡ []
unfolding backward
backward_none t = refl

pub backward_yes : (t : ℕ → Bool) (x : ℕ) (xs : List ℕ) → t x ≡ true → backward t (x ∷ xs) ≡ backward t xs ++ x ∷ []
unfolding backward
backward_yes t x xs y = ap (λ (b : Bool). backward t xs ++ cond b (x ∷ []) []) y

pub backward_no : (t : ℕ → Bool) (x : ℕ) (xs : List ℕ) → t x ≡ false → backward t (x ∷ xs) ≡ backward t xs
unfolding backward
backward_no t x xs n = ap (λ (b : Bool). backward t xs ++ cond b (x ∷ []) []) n ∙ append-nil (backward t xs)

yes_case : (h u e : Bool) → (e ≡ true → u ≡ true) → ((h && u) || e) ≡ ((e || h) && u)
yes_case true true true f = refl
yes_case true true false f = refl
yes_case true false true f = absurd (false≢true (f refl))
yes_case true false false f = refl
yes_case false true true f = refl
yes_case false true false f = refl
yes_case false false true f = absurd (false≢true (f refl))
yes_case false false false f = refl

no_case : (h u e : Bool) → (e ≡ true → u ≡ false) → (h && u) ≡ ((e || h) && u)
no_case true true true f = absurd (false≢true (sym (f refl)))
no_case true true false f = refl
no_case true false true f = refl
no_case true false false f = refl
no_case false true true f = absurd (false≢true (sym (f refl)))
no_case false true false f = refl
no_case false false true f = refl
no_case false false false f = refl

pub has_backward : (t : ℕ → Bool) (xs : List ℕ) (c : ℕ) → has (backward t xs) c ≡ (has xs c && t c)
unfolding backward has
has_backward t [] c = refl
has_backward t (x ∷ xs) c =
    elim (cases_Bool (t x)) [
      | inl y ↦ ap (λ (l : List ℕ). has l c) (backward_yes t x xs y) ∙ has_push (backward t xs) x c ∙ ap (λ (b : Bool). b || eqb x c) (has_backward t xs c) ∙ yes_case (has xs c) (t c) (eqb x c) (λ e. ap t (sym (eqb-true x c e)) ∙ y)
      | inr n ↦ ap (λ (l : List ℕ). has l c) (backward_no t x xs n) ∙ has_backward t xs c ∙ no_case (has xs c) (t c) (eqb x c) (λ e. ap t (sym (eqb-true x c e)) ∙ n)
    ]

pub apart_backward : (t : ℕ → Bool) (xs : List ℕ) → Apart xs → Apart (backward t xs)
apart_backward t [] a = subst Apart (sym (backward_none t)) a
apart_backward t (x ∷ xs) a =
    let tail : Apart xs = λ i j l h e. a (suc i) (suc j) (omega arith) (omega arith) e in
    let ih = apart_backward t xs tail in
    elim (cases_Bool (t x)) [
      | inl y ↦ subst Apart (sym (backward_yes t x xs y)) (push_apart (backward t xs) x ih (fresh (cases_Bool (has (backward t xs) x))))
      | inr n ↦ subst Apart (sym (backward_no t x xs n)) ih
    ]
  where
    fresh : (has (backward t xs) x ≡ true) ⊎ (has (backward t xs) x ≡ false) → has (backward t xs) x ≡ false
    fresh (inl y) =
        let w = has_true xs x (and_parts (has xs x) (t x) (sym (has_backward t xs x) ∙ y)).0 in
        absurd (a 0 (suc w.0) (omega arith) (omega (arith, w.1)) (sym w.2))
    fresh (inr n) = n

pub later_has : (g : Graph) (p : List ℕ) (i c : ℕ) → has (later_list g p i) c ≡ later g p i c
later_has g p i c = has_backward (clash g (get_or p i 0)) (drop (i + 1) p) c

pub later_apart : (g : Graph) (p : List ℕ) (i : ℕ) → Apart p → Apart (later_list g p i)
later_apart g p i a = apart_backward (clash g (get_or p i 0)) (drop (i + 1) p) (apart_drop (i + 1) p a)

-- ---- the last of the list

module _ (p : List ℕ) (i j : ℕ) (e : i + j + 1 ≡ length p) where
  pub last_is : length p - j ≡ i + 1
  last_is = omega arith

  pub last_more : (c : ℕ) → last p (j + 1) c ≡ plus (get_or p i 0) (last p j) c
  unfolding has
  last_more c =
      let a : length p - (j + 1) ≡ i = omega arith in
      let b : suc i ≡ length p - j = omega arith in
      ap (λ (k : ℕ). has (drop k p) c) a ∙ ap (λ (l : List ℕ). has l c) (drop-cons p i 0 (omega arith)) ∙ ap (λ (k : ℕ). eqb (get_or p i 0) c || has (drop k p) c) b

-- what is in the list, and neither among the first i nor at place i, comes later
pub has_after : (p : List ℕ) (i c : ℕ) → i < length p → has p c ≡ true → has (take i p) c ≡ false → (c ≡ get_or p i 0 → ⊥) → has (drop (i + 1) p) c ≡ true
has_after p i c l t f ne =
    let w = has_true p c t in
    elim (cases_order w.0 i) [
      | inl x ↦ absurd (ne (sym w.2 ∙ ap (λ (k : ℕ). get_or p k 0) x))
      | inr y ↦ elim y [
        | inl x ↦ let n = length-take-le i p (omega arith) in
            absurd (both_ways (has (take i p) c) f (ap (has (take i p)) (sym (get_or-take i p w.0 0 x ∙ w.2)) ∙ has_at (take i p) w.0 (omega arith)))
        | inr x ↦ let n = length-drop (i + 1) p in
            let k : i + 1 + (w.0 - (i + 1)) ≡ w.0 = omega arith in
            ap (has (drop (i + 1) p)) (sym (get_or-drop (i + 1) p (w.0 - (i + 1)) 0 ∙ ap (λ (m : ℕ). get_or p m 0) k ∙ w.2)) ∙ has_at (drop (i + 1) p) (w.0 - (i + 1)) (omega (arith, w.1))
      ]
    ]

-- ---- removal orders

pub order_once : (g : Graph) (p : List ℕ) → IsOrder g p → EachOnce g p
order_once g p o = record {
  vertex = λ i l. survivors_held g (take i p) (get_or p i 0) (o.each i l).member;
  once = λ i j l h e. both_ways (survivors g (take j p) (get_or p j 0)) (ap (survivors g (take j p)) (sym e) ∙ gone_after g p i j l (omega arith)) (o.each j h).member;
  all = o.all;
}

pub count_true : (n : ℕ) → count (λ _. true) n ≡ n
unfolding count
count_true zero = refl
count_true (suc n) = ap suc (count_true n)

pub order_few : (g : Graph) (p : List ℕ) (i : ℕ) → IsOrder g p → i < length p → length (later_list g p i) ≤ met g p i
unfolding met inside
order_few g p i o l =
    let v = get_or p i 0 in
    let q = later_list g p i in
    let apart = later_apart g p i (order_once g p o).once in
    let e = count_true (length q) in
    let r = count_inject (λ _. true) (λ b. survivors g (take i p) b && clash g v b) (λ k b. get_or q k 0 ≡ b) (length q) g.size
    (λ k h _. let x = and_parts (has (drop (i + 1) p) (get_or q k 0)) (clash g v (get_or q k 0)) (sym (later_has g p i (get_or q k 0)) ∙ has_at q k h) in
    let y = living (get_or q k 0) x.0 in
    (get_or q k 0, held_below g (get_or q k 0) (survivors_held g (take i p) (get_or q k 0) y), and_from (survivors g (take i p) (get_or q k 0)) (clash g v (get_or q k 0)) y x.1, refl))
    (λ a c b la lc _ _ x y. elim (cases_eq a c) [ inl z ↦ z | inr ne ↦ absurd (differ q apart a c la lc ne (x ∙ sym y)) ]) in
    omega arith
  where
    living : (b : ℕ) → has (drop (i + 1) p) b ≡ true → survivors g (take i p) b ≡ true
    living b t =
        let w = has_true (drop (i + 1) p) b t in
        let n = length-drop (i + 1) p in
        let k : ℕ = i + 1 + w.0 in
        let m : survivors g (take k p) (get_or p k 0) ≡ true = (o.each k (omega (arith, w.1))).member in
        lives_before g p i k b (omega arith) (ap (survivors g (take k p)) (sym (sym (get_or-drop (i + 1) p w.0 0) ∙ w.2)) ∙ m)
