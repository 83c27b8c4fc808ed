-- Taking out weak items until none is left leaves the one largest supported set.
use Rattle.std.proofs.Common.{◌≡◌, ℕ, zero, suc, ◌+◌, ◌<◌, ◌≤◌, Bool, true, false, cond, not, ◌&&◌, eqb, ltb, List, [], ◌∷◌, ◌++◌, length, get_or, take, sym, refl, ap, ◌∙◌, subst, inl, inr, add-one, arith}
use Rattle.std.proofs.lemmas.List.{take_all, take_more, length-take-le, get_or-take}
use Rattle.std.proofs.lemmas.Bool.{cases_Bool, cases_eq, cases_lt, and_parts, and_from, and_right, both_ways, eq-eqb, ne_eqb, eqb-true, not-true, not_from_false, ltb-true, lt-ltb}
use Rattle.std.proofs.lemmas.Bool.Decides.{nat_tests}
use Rattle.finite.specs.Finite.{count, has}
use Rattle.finite.specs.Supports.{Within, Falls, Supported, Largest}
use Rattle.supports.specs.Peel.{without, Weak, Peels, alive}
use Rattle.supports.specs.Levels.{Shrinks}
use Rattle.finite.proofs.Counts.{has_none, has_push, has_true, has_at, push_each, count_less, count_same, count_empty}

pub without_none : (s : ℕ → Bool) (c : ℕ) → without s [] c ≡ s c
unfolding without
without_none s c = let h = has_none c in grind (arith, nat_tests)

pub without_self : (s : ℕ → Bool) (p : List ℕ) (x : ℕ) → without s (p ++ x ∷ []) x ≡ false
unfolding without
without_self s p x = let h = has_push p x x in grind (arith, nat_tests)

pub without_other : (s : ℕ → Bool) (p : List ℕ) (x c : ℕ) → (c ≡ x → ⊥) → without s p c ≡ without s (p ++ x ∷ []) c
unfolding without
without_other s p x c ne = let h = has_push p x c in grind (arith, nat_tests)

pub without_member : (s : ℕ → Bool) (p : List ℕ) (c : ℕ) → without s p c ≡ true → s c ≡ true
unfolding without
without_member s p c e = (and_parts (s c) (not (has p c)) e).0

pub without_not : (s : ℕ → Bool) (p : List ℕ) (c : ℕ) → without s p c ≡ true → has p c ≡ false
unfolding without
without_not s p c e = not-true (has p c) (and_parts (s c) (not (has p c)) e).1

pub without_from : (s : ℕ → Bool) (p : List ℕ) (c : ℕ) → s c ≡ true → has p c ≡ false → without s p c ≡ true
unfolding without
without_from s p c y e = and_from (s c) (not (has p c)) y (not_from_false (has p c) e)

-- equal sets give equal supports
pub support_same : (sup : (ℕ → Bool) → ℕ → ℕ) → Falls sup → (s t : ℕ → Bool) → ((c : ℕ) → s c ≡ t c) → (c : ℕ) → sup s c ≡ sup t c
support_same sup f s t e c =
    omega (arith, f s t c (λ b y. sym (e b) ∙ y), f t s c (λ b y. e b ∙ y))

pub supported_same : (sup : (ℕ → Bool) → ℕ → ℕ) → Falls sup → (k : ℕ) (all s t : ℕ → Bool) → ((c : ℕ) → s c ≡ t c) → Supported sup k all s → Supported sup k all t
supported_same sup f k all s t e h =
    record { within = λ c y. h.within c (e c ∙ y); each = λ c y. omega (arith, support_same sup f s t e c, h.each c (e c ∙ y)) }

pub weak_same : (sup : (ℕ → Bool) → ℕ → ℕ) → Falls sup → (k : ℕ) (s t : ℕ → Bool) (x : ℕ) → ((c : ℕ) → s c ≡ t c) → Weak sup k s x → Weak sup k t x
weak_same sup f k s t x e w =
    record { member = sym (e x) ∙ w.member; below = omega (arith, support_same sup f s t e x, w.below) }

pub peels_none : (sup : (ℕ → Bool) → ℕ → ℕ) (k : ℕ) (all : ℕ → Bool) → Peels sup k all []
peels_none sup k all i l = absurd (omega arith)

pub peels_more : (sup : (ℕ → Bool) → ℕ → ℕ) (k : ℕ) (all : ℕ → Bool) (p : List ℕ) (x : ℕ) → Peels sup k all p → Weak sup k (without all p) x → Peels sup k all (p ++ x ∷ [])
peels_more sup k all p x each here = push_each (λ t y. Weak sup k (without all t) y) p x each here

-- no supported set loses an item
fronts : (sup : (ℕ → Bool) → ℕ → ℕ) (k : ℕ) (all u : ℕ → Bool) (p : List ℕ) → Falls sup → Peels sup k all p → Supported sup k all u → (i : ℕ) → i ≤ length p → Within u (without all (take i p))
fronts sup k all u p f w h zero l c y = without_none all c ∙ h.within c y
fronts sup k all u p f w h (suc i) l c y =
    let r = fronts sup k all u p f w h i (omega arith) in
    let x = get_or p i 0 in
    let m = take_more p i 0 l in
    let ne : c ≡ x → ⊥ = λ e. (let a : u x ≡ true = ap u (sym e) ∙ y in
    let b = f u (without all (take i p)) x r in
    omega (arith, (w i l).below, h.each x a)) in
    rw (← add-one) (ap (λ q. without all q c) m ∙ sym (without_other all (take i p) x c ne) ∙ r c y)

pub peels_keep : (sup : (ℕ → Bool) → ℕ → ℕ) (k : ℕ) (all u : ℕ → Bool) (p : List ℕ) → Falls sup → Peels sup k all p → Supported sup k all u → Within u (without all p)
peels_keep sup k all u p f w h =
    subst (λ q. Within u (without all q)) (take_all (length p) p (omega arith)) (fronts sup k all u p f w h (length p) (omega arith))

pub peels_all : (sup : (ℕ → Bool) → ℕ → ℕ) (k : ℕ) (all : ℕ → Bool) (p : List ℕ) → Falls sup → Peels sup k all p → ((c : ℕ) → without all p c ≡ true → k ≤ sup (without all p) c) → Largest sup k all (without all p)
peels_all sup k all p f w strong =
    record { supported = record { within = λ c e. without_member all p c e; each = strong }; covers = λ u h. peels_keep sup k all u p f w h }

pub largest_same : (sup : (ℕ → Bool) → ℕ → ℕ) → Falls sup → (k : ℕ) (all s t : ℕ → Bool) → ((c : ℕ) → s c ≡ t c) → Largest sup k all s → Largest sup k all t
largest_same sup f k all s t e h =
    record { supported = supported_same sup f k all s t e h.supported; covers = λ u m c y. sym (e c) ∙ h.covers u m c y }

-- there is one largest set
pub largest_one : (sup : (ℕ → Bool) → ℕ → ℕ) (k : ℕ) (all s t : ℕ → Bool) → Largest sup k all s → Largest sup k all t → (c : ℕ) → s c ≡ t c
largest_one sup k all s t a b c =
    elim (cases_Bool (s c)) [
      | inl y ↦ y ∙ sym (b.covers s a.supported c y)
      | inr y ↦ elim (cases_Bool (t c)) [
        | inl z ↦ absurd (both_ways (s c) y (a.covers t b.supported c z))
        | inr z ↦ y ∙ sym z
      ]
    ]

pub alive_below : (n : ℕ) (bytes : List ℕ) (c : ℕ) → alive n bytes c ≡ true → c < n
unfolding alive
alive_below n bytes c e = ltb-true c n (and_parts (ltb c n) (eqb (get_or bytes c 0) 1) e).0

pub alive_byte : (n : ℕ) (bytes : List ℕ) (c : ℕ) → alive n bytes c ≡ true → get_or bytes c 0 ≡ 1
unfolding alive
alive_byte n bytes c e = eqb-true (get_or bytes c 0) 1 (and_parts (ltb c n) (eqb (get_or bytes c 0) 1) e).1

pub alive_yes : (n : ℕ) (bytes : List ℕ) (c : ℕ) → c < n → get_or bytes c 0 ≡ 1 → alive n bytes c ≡ true
unfolding alive
alive_yes n bytes c l e = and_from (ltb c n) (eqb (get_or bytes c 0) 1) (lt-ltb c n l) (eq-eqb (get_or bytes c 0) 1 e)

pub alive_no : (n : ℕ) (bytes : List ℕ) (c : ℕ) → (get_or bytes c 0 ≡ 1 → ⊥) → alive n bytes c ≡ false
unfolding alive
alive_no n bytes c e = and_right (ltb c n) (eqb (get_or bytes c 0) 1) (ne_eqb (get_or bytes c 0) 1 e)

pub alive_same : (n : ℕ) (xs ys : List ℕ) → ((c : ℕ) → c < n → get_or xs c 0 ≡ get_or ys c 0) → (c : ℕ) → alive n xs c ≡ alive n ys c
unfolding alive
alive_same n xs ys e c =
    elim (cases_lt c n) [ inl l ↦ let h = e c l in grind (arith, nat_tests) | inr l ↦ grind (arith, nat_tests) ]

-- the bytes of the items in the list are cleared
pub alive_cleared : (n : ℕ) (before after : List ℕ) (p : List ℕ) → ((c : ℕ) → get_or after c 0 ≡ cond (has p c) 0 (get_or before c 0)) → (c : ℕ) → alive n after c ≡ without (alive n before) p c
unfolding alive without
alive_cleared n before after p e c = let h = e c in grind (arith, nat_tests)

-- the same for another way to say the set that is peeled
pub without_same : (s t : ℕ → Bool) (p : List ℕ) → ((c : ℕ) → s c ≡ t c) → (c : ℕ) → without s p c ≡ without t p c
unfolding without
without_same s t p e c = ap (λ v. v && not (has p c)) (e c)

pub peels_same : (sup : (ℕ → Bool) → ℕ → ℕ) → Falls sup → (k : ℕ) (s t : ℕ → Bool) (p : List ℕ) → ((c : ℕ) → s c ≡ t c) → Peels sup k s p → Peels sup k t p
peels_same sup f k s t p e w i l =
    weak_same sup f k (without s (take i p)) (without t (take i p)) (get_or p i 0) (without_same s t (take i p) e) (w i l)

pub largest_of_same : (sup : (ℕ → Bool) → ℕ → ℕ) (k : ℕ) (all every s : ℕ → Bool) → ((c : ℕ) → all c ≡ every c) → Largest sup k all s → Largest sup k every s
largest_of_same sup k all every s e h =
    record {
      supported = record { within = λ c y. sym (e c) ∙ h.supported.within c y; each = h.supported.each };
      covers = λ u m. h.covers u (record { within = λ c y. e c ∙ m.within c y; each = m.each });
    }

-- what is taken out was there
pub peels_member : (sup : (ℕ → Bool) → ℕ → ℕ) (k : ℕ) (all : ℕ → Bool) (p : List ℕ) (c : ℕ) → Peels sup k all p → has p c ≡ true → all c ≡ true
peels_member sup k all p c w y =
    let r = has_true p c y in
    ap all (sym r.2) ∙ without_member all (take r.0 p) (get_or p r.0 0) (w r.0 r.1).member

-- all places of a list are different, told by how many numbers stand in it
pub has_push_count : (n : ℕ) (p : List ℕ) (x : ℕ) → x < n → has p x ≡ false → count (has (p ++ x ∷ [])) n ≡ count (has p) n + 1
has_push_count n p x l e =
    count_less (has (p ++ x ∷ [])) (has p) x n l (let h = has_push p x x in let q = eq-eqb x x refl in grind (arith, nat_tests)) e (λ c ne. let h = has_push p x c in let q = ne_eqb x c (λ i. ne (sym i)) in grind (arith, nat_tests))

-- one more adds at most one
pub has_cons_le : (n x : ℕ) (p : List ℕ) → count (has (x ∷ p)) n ≤ count (has p) n + 1
unfolding count has
has_cons_le zero x p = omega arith
has_cons_le (suc n) x p =
    let h = has_cons_le n x p in
    elim (cases_eq x n) [
      | inl e ↦ let s = count_same (has (x ∷ p)) (has p) n (λ c l. let q = ne_eqb x c (omega arith) in grind (arith, nat_tests)) in
          let q = eq-eqb x n e in grind (arith, nat_tests)
      | inr e ↦ let q = ne_eqb x n e in grind (arith, nat_tests)
    ]

pub has_cons_same : (n x : ℕ) (p : List ℕ) → has p x ≡ true → count (has (x ∷ p)) n ≡ count (has p) n
unfolding has
has_cons_same n x p y =
    count_same (has (x ∷ p)) (has p) n (λ c l. elim (cases_eq x c) [
      | inl e ↦ let z : has p c ≡ true = ap (has p) (sym e) ∙ y in grind (arith, nat_tests)
      | inr e ↦ let q = ne_eqb x c e in grind (arith, nat_tests)
    ])

pub has_count_le : (n : ℕ) (p : List ℕ) → count (has p) n ≤ length p
has_count_le n [] = omega (arith, count_empty (has []) n (λ c l. has_none c))
has_count_le n (x ∷ p) = omega (arith, has_cons_le n x p, has_count_le n p)

-- what stands at a place does not stand before it
pub many_fresh : (n : ℕ) (p : List ℕ) → count (has p) n ≡ length p → (i j : ℕ) → i < j → j < length p → get_or p i 0 ≡ get_or p j 0 → ⊥
many_fresh n [] e i j l m = λ q. omega arith
many_fresh n (x ∷ p) e i zero l m = λ q. omega arith
many_fresh n (x ∷ p) e zero (suc j) l m = λ q. (let b = has_count_le n p in
    elim (cases_Bool (has p x)) [
      | inl y ↦ omega (arith, has_cons_same n x p y)
      | inr y ↦ both_ways (has p x) y (ap (has p) q ∙ has_at p j (omega arith))
    ])
many_fresh n (x ∷ p) e (suc i) (suc j) l m = λ q. (let a = has_cons_le n x p in
    let b = has_count_le n p in
    elim (cases_Bool (has p x)) [
      | inl y ↦ omega (arith, has_cons_same n x p y)
      | inr y ↦ many_fresh n p (omega arith) i j (omega arith) (omega arith) q
    ])

-- the same of the front
pub many_front : (n : ℕ) (p : List ℕ) (j : ℕ) → count (has p) n ≡ length p → j < length p → has (take j p) (get_or p j 0) ≡ false
many_front n p j e l =
    elim (cases_Bool (has (take j p) (get_or p j 0))) [
      | inr y ↦ y
      | inl y ↦ let r = has_true (take j p) (get_or p j 0) y in
          let t = length-take-le j p (omega arith) in
          absurd (many_fresh n p e r.0 j (omega (arith, r.1)) l (sym (get_or-take j p r.0 0 (omega (arith, r.1))) ∙ r.2))
    ]

pub supported_less : (sup : (ℕ → Bool) → ℕ → ℕ) (t r : ℕ) (all s : ℕ → Bool) → t ≤ r → Supported sup r all s → Supported sup t all s
supported_less sup t r all s l h = record { within = h.within; each = λ c y. omega (arith, h.each c y) }

pub shrinks : Shrinks
shrinks sup all s u t r l a b = a.covers u (supported_less sup t r all u l b.supported)
