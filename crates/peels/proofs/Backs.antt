-- Putting back the vertices that were taken out.
use Rattle.std.proofs.Common.{◌≡◌, ℕ, zero, suc, ◌+◌, ◌-◌, ◌<◌, ◌≤◌, max, true, false, List, [], length, get_or, take, set, sym, refl, ap, ◌∙◌, subst, inl, inr, arith, get_or-set_other, get_or-set_same}
use Rattle.std.proofs.lemmas.List.{take_all, get_or-take, length-take-le}
use Rattle.std.proofs.lemmas.Bool.{cases_Bool, cases_eq, both_ways}
use Rattle.finite.specs.Finite.{has}
use Rattle.finite.proofs.Counts.{has_true, has_at}
use Rattle.graph.specs.Graph.{Graph, Lawful, held, clash}
use Rattle.graph.specs.Colourings.{ColouredIn, Coloured}
use Rattle.graph.proofs.Graphs.{clash_right, inside_mono}
use Rattle.degeneracy.specs.Order.{survivors}
use Rattle.degeneracy.specs.Greedy.{Lowest}
use Rattle.degeneracy.proofs.Orders.{survivors_not, survivors_none}
use Rattle.degeneracy.proofs.Plans.{lowest_one, lowest_same, lowest_few, gone_after, lives_before}
use Rattle.colourings.proofs.Coloured.{coloured_fewer, coloured_same, coloured_add}
use Rattle.peels.specs.Peels.{Taken, Peeled, IsPutBack}
use Rattle.peels.proofs.Lives.{lives_more, taken_once, left_or_taken}

-- there is one way to put back: from the last place on
module _ (g : Graph) (p : List ℕ) (old col new : ℕ → ℕ) (a : IsPutBack g p old col) (b : IsPutBack g p old new) where
  agree : (m i : ℕ) → i + m ≡ length p → (c : ℕ) → survivors g (take i p) c ≡ true → col c ≡ new c
  agree zero i e c y =
      let n = survivors_not g (take i p) c y in
      let h : has p c ≡ false = subst (λ v. has v c ≡ false) (take_all i p (omega arith)) n in
      a.keeps c h ∙ sym (b.keeps c h)
  agree (suc m) i e c y =
      let x = get_or p i 0 in
      let l : i < length p = omega arith in
      elim (cases_eq c x) [
        | inr ne ↦ agree m (i + 1) (omega arith) c (sym (lives_more g p i c l ne) ∙ y)
        | inl q ↦ ap col q ∙ lowest_one g (survivors g (take (i + 1) p)) new x (col x) (new x) (lowest_same g (survivors g (take (i + 1) p)) col new x (col x) (agree m (i + 1) (omega arith)) (a.each i l)) (b.each i l) ∙ ap new (sym q)
      ]

  same_at : (i : ℕ) → i < length p → col (get_or p i 0) ≡ new (get_or p i 0)
  same_at i l =
      let s = survivors g (take (i + 1) p) in
      let x = get_or p i 0 in
      lowest_one g s new x (col x) (new x) (lowest_same g s col new x (col x) (agree (length p - (i + 1)) (i + 1) (omega arith)) (a.each i l)) (b.each i l)

  pub put_back_one : (c : ℕ) → col c ≡ new c
  put_back_one c =
      elim (cases_Bool (has p c)) [
        | inl y ↦ let w = has_true p c y in ap col (sym w.2) ∙ same_at w.0 w.1 ∙ ap new w.2
        | inr n ↦ a.keeps c n ∙ sym (b.keeps c n)
      ]

-- the whole graph is coloured
module _ (g : Graph) (p : List ℕ) (t k : ℕ) (old col : ℕ → ℕ) (lw : Lawful g) (h : Peeled g t p) (top : t ≤ k) (s : ColouredIn g (survivors g p) k old) (w : IsPutBack g p old col) where
  coloured_back : (m i : ℕ) → i + m ≡ length p → ColouredIn g (survivors g (take i p)) k col
  coloured_back zero i e =
      subst (λ v. ColouredIn g (survivors g v) k col) (sym (take_all i p (omega arith)))
      (coloured_same g (survivors g p) k old col (λ c y. sym (w.keeps c (survivors_not g p c y))) s)
  coloured_back (suc m) i e =
      let l : i < length p = omega arith in
      let x = get_or p i 0 in
      let a = w.each i l in
      let few = lowest_few g (survivors g (take (i + 1) p)) col x (col x) a in
      let mono = inside_mono g (survivors g (take (i + 1) p)) (survivors g (take i p)) x (λ b y. lives_before g p i (i + 1) b (omega arith) y) in
      let less = h.few i l in
      coloured_add g (survivors g (take i p)) (survivors g (take (i + 1) p)) k col x lw (λ c ne y. sym (lives_more g p i c l ne) ∙ y) a.from_one (omega arith) (λ b y e. a.free b y e) (coloured_back m (i + 1) (omega arith))

  pub put_coloured : Coloured g k col
  put_coloured = coloured_fewer g (held g) (survivors g []) k col (λ c y. survivors_none g c ∙ y) (coloured_back (length p) 0 (omega arith))

pub put_coloured_max : (g : Graph) (p : List ℕ) (t k : ℕ) (old col : ℕ → ℕ) → Lawful g → Peeled g t p → ColouredIn g (survivors g p) k old → IsPutBack g p old col → Coloured g (max k t) col
put_coloured_max g p t k old col lw h s w =
    put_coloured g p t (max k t) old col lw h (omega arith) (record { low = s.low; high = λ c y. (let l = s.high c y in omega arith); apart = s.apart }) w

-- the state once the places from i on are put back
pub record Back (g : Graph) (p : List ℕ) (i : ℕ) (old paint : List ℕ) : Type 0 where
  pub each : (j : ℕ) → i ≤ j → j < length p → Lowest g (survivors g (take (j + 1) p)) (λ c. get_or paint c 0) (get_or p j 0) (get_or paint (get_or p j 0) 0)
  pub blank : (j : ℕ) → j < i → get_or paint (get_or p j 0) 0 ≡ 0
  pub keeps : (c : ℕ) → has p c ≡ false → get_or paint c 0 ≡ get_or old c 0

pub back_none : (g : Graph) (p : List ℕ) (i : ℕ) (old : List ℕ) → i ≡ length p → ((j : ℕ) → j < length p → get_or old (get_or p j 0) 0 ≡ 0) → Back g p i old old
back_none g p i old e z =
    record { each = λ j l m. absurd (omega arith); blank = λ j l. z j (omega arith); keeps = λ c n. refl }

pub back_all : (g : Graph) (p : List ℕ) (old mid paint : List ℕ) → ((c : ℕ) → has p c ≡ false → get_or mid c 0 ≡ get_or old c 0) → Back g p 0 mid paint → IsPutBack g p (λ c. get_or old c 0) (λ c. get_or paint c 0)
back_all g p old mid paint e s =
    record { each = λ i l. s.each i (omega arith) l; keeps = λ c n. s.keeps c n ∙ e c n }

module _ (g : Graph) (p : List ℕ) (i : ℕ) (old paint : List ℕ) (r : ℕ) (lw : Lawful g) (tk : Taken g p) (l : i < length p) (fits : get_or p i 0 < length paint) (s : Back g p (i + 1) old paint) (a : Lowest g (held g) (λ c. get_or paint c 0) (get_or p i 0) r) where
  same : get_or (set paint (get_or p i 0) r) (get_or p i 0) 0 ≡ r
  same = get_or-set_same paint (get_or p i 0) r 0 fits

  off : (c : ℕ) → (c ≡ get_or p i 0 → ⊥) → get_or (set paint (get_or p i 0) r) c 0 ≡ get_or paint c 0
  off c ne = get_or-set_other paint (get_or p i 0) c r 0 ne

  apart : (b : ℕ) → clash g (get_or p i 0) b ≡ true → b ≡ get_or p i 0 → ⊥
  apart b k q = both_ways (clash g (get_or p i 0) b) (ap (clash g (get_or p i 0)) q ∙ lw.never (get_or p i 0)) k

  -- what has a colour was left, or put back
  living : (b k : ℕ) → held g b ≡ true → 1 ≤ k → get_or paint b 0 ≡ k → survivors g (take (i + 1) p) b ≡ true
  living b k y one e =
      elim (left_or_taken g (take (i + 1) p) b y) [
        | inl h ↦ h
        | inr w ↦ absurd (
            let n = length-take-le (i + 1) p (omega arith) in
            let j = w.0 in
            let m : j < i + 1 = omega (arith, w.1) in
            let q : get_or p j 0 ≡ b = sym (get_or-take (i + 1) p j 0 m) ∙ w.2 in
            let z = s.blank j m in
            let u = ap (λ v. get_or paint v 0) q in omega arith)
      ]

  here : Lowest g (survivors g (take (i + 1) p)) (λ c. get_or (set paint (get_or p i 0) r) c 0) (get_or p i 0) r
  here =
      record {
        from_one = a.from_one;
        free = λ b n k z. a.free b (clash_right g (get_or p i 0) b k) k (sym (off b (apart b k)) ∙ z);
        below = λ k one low. let w = a.below k one low in
            (w.0, living w.0 k w.1 one w.3, w.2, off w.0 (apart w.0 w.2) ∙ w.3);
      }

  later : (j : ℕ) → i < j → j < length p → Lowest g (survivors g (take (j + 1) p)) (λ c. get_or (set paint (get_or p i 0) r) c 0) (get_or p j 0) (get_or (set paint (get_or p i 0) r) (get_or p j 0) 0)
  later j lt m =
      let gone : (b : ℕ) → survivors g (take (j + 1) p) b ≡ true → b ≡ get_or p i 0 → ⊥ = λ b y q. both_ways (survivors g (take (j + 1) p) b) (ap (survivors g (take (j + 1) p)) q ∙ gone_after g p i (j + 1) (omega arith) (omega arith)) y in
      let ne : get_or p j 0 ≡ get_or p i 0 → ⊥ = λ q. (let e = taken_once g p j i tk m l q in omega arith) in
      rw (off (get_or p j 0) ne) (lowest_same g (survivors g (take (j + 1) p)) (λ c. get_or paint c 0) (λ c. get_or (set paint (get_or p i 0) r) c 0) (get_or p j 0) (get_or paint (get_or p j 0) 0) (λ b y. sym (off b (gone b y))) (s.each j (omega arith) m))

  pub back_more : Back g p i old (set paint (get_or p i 0) r)
  back_more =
      record {
        each = λ j h m. elim (cases_eq j i) [
          | inl e ↦ subst (λ v. Lowest g (survivors g (take (v + 1) p)) (λ c. get_or (set paint (get_or p i 0) r) c 0) (get_or p v 0) (get_or (set paint (get_or p i 0) r) (get_or p v 0) 0)) (sym e) (rw same here)
          | inr ne ↦ later j (omega arith) m
        ];
        blank = λ j h. off (get_or p j 0) (λ q. (let e = taken_once g p j i tk (omega arith) l q in omega arith)) ∙ s.blank j (omega arith);
        keeps = λ c n. off c (λ q. both_ways (has p c) n (ap (has p) q ∙ has_at p i l)) ∙ s.keeps c n;
      }
