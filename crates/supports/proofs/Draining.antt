-- The state of peeling with a queue: the first `head` places are taken out, those up to `tail` wait.
use Rattle.std.proofs.Common.{◌≡◌, ℕ, ◌+◌, ◌<◌, ◌≤◌, Bool, true, false, cond, not, ◌&&◌, ◌||◌, eqb, ltb, List, [], ◌∷◌, ◌++◌, length, get_or, take, drop, set, sym, refl, ap, ◌∙◌, subst, inl, inr, arith, get_or-set_other, get_or-set_same}
use Rattle.std.proofs.lemmas.List.{take_more, take-take, length-take-le, get_or-take}
use Rattle.std.proofs.lemmas.Bool.{cases_Bool, cases_eq, cases_lt, both_ways, and_parts, ltb-true, ltb-false, lt-ltb, le-ltb, eqb-true, eq-eqb, ne_eqb, cond-true, cond-false}
use Rattle.std.proofs.lemmas.Bool.Decides.{nat_tests}
use Rattle.finite.specs.Finite.{count, has}
use Rattle.finite.specs.Supports.{Falls}
use Rattle.finite.proofs.Counts.{count_le, has_none, has_push, has_at}
use Rattle.supports.specs.Peel.{Weak, Peels, Counted, Losers, PeeledIn, alive, but, without}
use Rattle.supports.proofs.Peels.{alive_below, alive_byte, alive_cleared, peels_none, peels_more, peels_all, weak_same, largest_same, support_same, many_fresh}

-- the item x is cleared
pub alive_set : (n : ℕ) (living : List ℕ) (x : ℕ) → n ≤ length living → (c : ℕ) → alive n (set living x 0) c ≡ but (alive n living) x c
unfolding alive but
alive_set n living x l c =
    elim (cases_eq c x) [
      | inl e ↦ let q = eq-eqb c x e in
          elim (cases_lt x n) [
            | inl m ↦ let g = get_or-set_same living x 0 0 (omega arith) in
                let h = ap (λ (v : ℕ). get_or (set living x 0) v 0) e in grind (arith, nat_tests)
            | inr m ↦ grind (arith, nat_tests)
          ]
      | inr ne ↦ let g = get_or-set_other living x c 0 0 ne in let q = ne_eqb c x ne in grind (arith, nat_tests)
    ]

pub but_other : (s : ℕ → Bool) (x c : ℕ) → but s x c ≡ true → (s c ≡ true) × (c ≡ x → ⊥)
unfolding but
but_other s x c y =
    let p = and_parts (s c) (not (eqb c x)) y in
    (p.0, λ e. let q = eq-eqb c x e in let z : ◌≡◌ {A = Bool} true false = grind (arith, nat_tests) in both_ways true (z) refl)

pub but_from : (s : ℕ → Bool) (x c : ℕ) → s c ≡ true → (c ≡ x → ⊥) → but s x c ≡ true
unfolding but
but_from s x c y ne = let q = ne_eqb c x ne in grind (arith, nat_tests)

pub but_self : (s : ℕ → Bool) (x : ℕ) → but s x x ≡ false
unfolding but
but_self s x = grind (arith, nat_tests)

pub but_same : (s : ℕ → Bool) (x c : ℕ) → (c ≡ x → ⊥) → but s x c ≡ s c
unfolding but
but_same s x c ne = grind (arith, nat_tests)

-- a count falls below k, or was below k
weak_low : (a b k : ℕ) (o q r : Bool) → a ≡ b + cond o 1 0 → q ≡ ltb a k → r ≡ (q || (o && eqb (b + 1) k)) → r ≡ ltb b k
weak_low a b k true q r e w z =
    elim (cases_lt b k) [
      | inl l ↦ elim (cases_eq (b + 1) k) [
        | inl i ↦ let u = eq-eqb (b + 1) k i in let v = lt-ltb b k l in grind (arith, nat_tests)
        | inr i ↦ let u = lt-ltb a k (omega arith) in let v = lt-ltb b k l in grind (arith, nat_tests)
      ]
      | inr l ↦ let u = le-ltb a k (omega arith) in let v = le-ltb b k l in let t = ne_eqb (b + 1) k (omega arith) in grind (arith, nat_tests)
    ]
weak_low a b k false q r e w z = let h : a ≡ b = omega arith in let u = ap (λ (v : ℕ). ltb v k) h in grind (arith, nat_tests)

pub record Draining (sup : (ℕ → Bool) → ℕ → ℕ) (n k : ℕ) (before living counts taken : List ℕ) (head tail : ℕ) : Type 0 where
  pub behind : head ≤ tail
  pub peels : Peels sup k (alive n before) (take head taken)
  pub cleared : (c : ℕ) → get_or living c 0 ≡ cond (has (take head taken) c) 0 (get_or before c 0)
  pub counted : Counted sup n living counts
  pub weak : (c : ℕ) → alive n living c ≡ true → has (take tail taken) c ≡ ltb (get_or counts c 0) k
  pub many : count (has (take tail taken)) n ≡ tail
  pub ahead : (j : ℕ) → head ≤ j → j < tail → alive n living (get_or taken j 0) ≡ true

pub draining_none : (sup : (ℕ → Bool) → ℕ → ℕ) (n k : ℕ) (living counts taken : List ℕ) (tail : ℕ) → Counted sup n living counts → tail ≤ length taken → ((c : ℕ) → has (take tail taken) c ≡ (alive n living c && ltb (get_or counts c 0) k)) → count (has (take tail taken)) n ≡ tail → Draining sup n k living living counts taken 0 tail
draining_none sup n k living counts taken tail co fits w m =
    record {
      behind = omega arith;
      peels = peels_none sup k (alive n living);
      cleared = λ c. let h = has_none c in sym (cond-false (has [] c) 0 (get_or living c 0) h);
      counted = co;
      weak = λ c y. let h = w c in grind (arith, nat_tests);
      many = m;
      ahead = λ j l h. (and_parts (alive n living (get_or taken j 0)) (ltb (get_or counts (get_or taken j 0) 0) k) (sym (w (get_or taken j 0)) ∙ sym (ap (has (take tail taken)) (get_or-take tail taken j 0 h)) ∙ has_at (take tail taken) j (omega (arith, length-take-le tail taken fits)))).0;
    }

-- what lowering the counts and queueing the weak leaves
pub record Lowered (n k : ℕ) (out counts counts' taken taken' : List ℕ) (tail tail' : ℕ) : Type 0 where
  pub low : (c : ℕ) → get_or counts c 0 ≡ get_or counts' c 0 + cond (has out c) 1 0
  pub same : take tail taken' ≡ take tail taken
  pub grows : tail ≤ tail'
  pub fits : tail' ≤ length taken'
  pub queue : (c : ℕ) → has (take tail' taken') c ≡ (has (take tail taken) c || (has out c && eqb (get_or counts' c 0 + 1) k))
  pub many : count (has (take tail' taken')) n ≡ tail'
  pub new : (j : ℕ) → tail ≤ j → j < tail' → has out (get_or taken' j 0) ≡ true

-- the item at the head of the queue is taken out
module _ (sup : (ℕ → Bool) → ℕ → ℕ) (n k : ℕ) (before living counts taken : List ℕ) (head tail : ℕ) (f : Falls sup) (room : n ≤ length living) (s : Draining sup n k before living counts taken head tail) (here : head < tail) (fits : tail ≤ length taken) where
  abbrev pub x : ℕ
  x = get_or taken head 0

  in_queue : (j : ℕ) → j < tail → has (take tail taken) (get_or taken j 0) ≡ true
  in_queue j l = sym (ap (has (take tail taken)) (get_or-take tail taken j 0 l)) ∙ has_at (take tail taken) j (omega (arith, length-take-le tail taken fits))

  pub head_weak : Weak sup k (alive n living) x
  head_weak =
      let a = s.ahead head (omega arith) here in
      record { member = a; below = omega (arith, ltb-true (get_or counts x 0) k (sym (s.weak x a) ∙ in_queue head here), s.counted x a) }

  pub head_below : get_or taken head 0 < n
  head_below = alive_below n living x (s.ahead head (omega arith) here)

  pub tail_le : tail ≤ n
  tail_le = omega (arith, s.many, count_le (has (take tail taken)) n)

  -- an item that loses a support has one
  pub losers_positive : (out : List ℕ) → Losers sup n (alive n living) x out → (c : ℕ) → has out c ≡ true → 0 < get_or counts c 0
  losers_positive out lo c y =
      let a = lo.member c y in
      let b = lo.less c a (lo.other c y) in
      let d = cond-true {A = ℕ} (has out c) 1 0 y in
      omega (arith, s.counted c a)

  later : (j : ℕ) → head < j → j < tail → get_or taken j 0 ≡ x → ⊥
  later j l h e =
      let t = length-take-le tail taken fits in
      many_fresh n (take tail taken) (s.many ∙ sym t) head j l (omega arith) (get_or-take tail taken head 0 here ∙ sym e ∙ sym (get_or-take tail taken j 0 h))

  front : take (head + 1) taken ≡ take head taken ++ x ∷ []
  front = take_more taken head 0 (omega arith)

  -- an item that loses a support is not yet queued if it only now falls below k
  pub fresh_losers : (out counts' : List ℕ) → Losers sup n (alive n living) x out → ((c : ℕ) → get_or counts c 0 ≡ get_or counts' c 0 + cond (has out c) 1 0) → (c : ℕ) → has out c ≡ true → eqb (get_or counts' c 0 + 1) k ≡ true → has (take tail taken) c ≡ false
  fresh_losers out counts' lo low c y e =
      let w = s.weak c (lo.member c y) in let q = low c in
      let z = eqb-true (get_or counts' c 0 + 1) k e in grind (arith, nat_tests)

  module _ (out counts' taken' : List ℕ) (tail' : ℕ) (lo : Losers sup n (alive n living) x out) (w : Lowered n k out counts counts' taken taken' tail tail') where
    kept : (j : ℕ) → j < tail → get_or taken' j 0 ≡ get_or taken j 0
    kept j l = sym (get_or-take tail taken' j 0 l) ∙ ap (λ (p : List ℕ). get_or p j 0) w.same ∙ get_or-take tail taken j 0 l

    front' : take (head + 1) taken' ≡ take head taken ++ x ∷ []
    front' = sym (take-take (head + 1) tail taken' (omega arith)) ∙ ap (take (head + 1)) w.same ∙ take-take (head + 1) tail taken (omega arith) ∙ front

    gone : (c : ℕ) → get_or (set living x 0) c 0 ≡ cond (has (take (head + 1) taken') c) 0 (get_or before c 0)
    gone c =
        let h = ap (λ p. has p c) front' ∙ has_push (take head taken) x c in
        let e = s.cleared c in
        elim (cases_eq c x) [
          | inl i ↦ let l = alive_below n living x head_weak.member in
              let g = get_or-set_same living x 0 0 (omega arith) in
              let q = ap (λ v. get_or (set living x 0) v 0) i in
              let y = eq-eqb x c (sym i) in
              grind (arith, nat_tests)
          | inr ne ↦ let g = get_or-set_other living x c 0 0 ne in let y = ne_eqb x c (λ i. ne (sym i)) in grind (arith, nat_tests)
        ]

    living_yet : (c : ℕ) → alive n (set living x 0) c ≡ true → (alive n living c ≡ true) × (c ≡ x → ⊥)
    living_yet c y = but_other (alive n living) x c (sym (alive_set n living x room c) ∙ y)

    counts_yet : Counted sup n (set living x 0) counts'
    counts_yet c y =
        let r = living_yet c y in
        let a = s.counted c r.0 in
        let b = lo.less c r.0 r.1 in
        let d = w.low c in
        let e = support_same sup f (alive n (set living x 0)) (but (alive n living) x) (alive_set n living x room) c in
        omega arith

    pub draining_more : Draining sup n k before (set living x 0) counts' taken' (head + 1) tail'
    draining_more =
        let was = alive_cleared n before living (take head taken) s.cleared in
        record {
          behind = omega (arith, w.grows);
          peels = subst (Peels sup k (alive n before)) (sym front') (peels_more sup k (alive n before) (take head taken) x s.peels (weak_same sup f k (alive n living) (without (alive n before) (take head taken)) x was head_weak));
          cleared = gone;
          counted = counts_yet;
          weak = λ c y. weak_low (get_or counts c 0) (get_or counts' c 0) k (has out c) (has (take tail taken) c) (has (take tail' taken') c) (w.low c) (s.weak c (living_yet c y).0) (w.queue c);
          many = w.many;
          ahead = λ j l h. alive_set n living x room (get_or taken' j 0) ∙ elim (cases_lt j tail) [
            | inl m ↦ but_from (alive n living) x (get_or taken' j 0) (ap (alive n living) (kept j m) ∙ s.ahead j (omega arith) m) (λ e. later j (omega arith) m (sym (kept j m) ∙ e))
            | inr m ↦ let o = w.new j m h in but_from (alive n living) x (get_or taken' j 0) (lo.member (get_or taken' j 0) o) (lo.other (get_or taken' j 0) o)
          ];
        }

pub draining_all : (sup : (ℕ → Bool) → ℕ → ℕ) (n k : ℕ) (before living counts taken old : List ℕ) (head tail : ℕ) → Falls sup → Draining sup n k before living counts taken head tail → tail ≤ head → tail ≤ length taken → drop tail taken ≡ drop tail old → PeeledIn sup n k before living old taken tail
draining_all sup n k before living counts taken old head tail f s done fits rest =
    let e : head ≡ tail = omega (arith, s.behind) in
    let cleared : (c : ℕ) → get_or living c 0 ≡ cond (has (take tail taken) c) 0 (get_or before c 0) = subst (λ v. (c : ℕ) → get_or living c 0 ≡ cond (has (take v taken) c) 0 (get_or before c 0)) e s.cleared in
    let peels = subst (λ v. Peels sup k (alive n before) (take v taken)) e s.peels in
    let was = alive_cleared n before living (take tail taken) cleared in
    let strong : (c : ℕ) → alive n living c ≡ true → k ≤ sup (alive n living) c = λ c y.
    (let b = alive_byte n living c y in let d = cleared c in
    let h : has (take tail taken) c ≡ false = elim (cases_Bool (has (take tail taken) c)) [ inr z ↦ z | inl z ↦ absurd (grind (arith, nat_tests)) ] in
    omega (arith, ltb-false (get_or counts c 0) k (sym (s.weak c y) ∙ h), s.counted c y)) in
    record {
      fits = omega (arith, s.many, count_le (has (take tail taken)) n);
      peels = peels;
      cleared = cleared;
      largest = largest_same sup f k (alive n before) (without (alive n before) (take tail taken)) (alive n living) (λ c. sym (was c)) (peels_all sup k (alive n before) (take tail taken) f peels (λ c y. omega (arith, support_same sup f (alive n living) (without (alive n before) (take tail taken)) was c, strong c (was c ∙ y))));
      rest = rest;
    }
