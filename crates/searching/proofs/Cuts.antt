-- Classes taken from a mask, and the places of a mask that are left to branch on.
use Rattle.std.proofs.Common.{◌≡◌, ℕ, ◌+◌, ◌<◌, ◌≤◌, Bool, true, false, not, ◌&&◌, eqb, ◌⊎◌, sym, refl, ap, ◌∙◌, inl, inr, ⊎_elim, arith}
use Rattle.std.proofs.lemmas.Bool.{cases_Bool, cases_eq, eq-eqb, ne_eqb, and_parts, and_from, and_right, both_ways, not-true, not_from_false}
use Rattle.finite.specs.Finite.{count}
use Rattle.finite.specs.Masks.{bit}
use Rattle.finite.specs.Supports.{Within}
use Rattle.finite.proofs.Counts.{count_mono, count_less, count_empty}
use Rattle.finite.proofs.Splits.{count_split, count_one}
use Rattle.finite.proofs.Masks.{bit_none, bit_zero}
use Rattle.pictures.specs.Pictures.{Clique, joined, neighbours}
use Rattle.pictures.specs.declared.shape.Picture.{Picture}
use Rattle.searching.specs.Answers.{AtMost}
use Rattle.searching.specs.Cuts.{Cut, Class}

and_true : (a b : Bool) → b ≡ true → (a && b) ≡ a
and_true a b t = rw t (grind (arith, cases_Bool a))

-- ---- a mask without one member

module _ (m less v : ℕ) (is : (j : ℕ) → bit less j ≡ (bit m j && not (eqb j v))) where
  pub less_within : Within (bit less) (bit m)
  less_within j t = (and_parts _ _ (sym (is j) ∙ t)).0

  pub less_other : (j : ℕ) → (j ≡ v → ⊥) → bit m j ≡ true → bit less j ≡ true
  less_other j ne t = is j ∙ and_from _ _ t (not_from_false _ (ne_eqb j v ne))

  pub less_self : bit less v ≡ false
  less_self = is v ∙ and_right _ _ (ap not (eq-eqb v v refl))

  pub less_not : (j : ℕ) → bit less j ≡ true → j ≡ v → ⊥
  less_not j t e = both_ways _ less_self (ap (bit less) (sym e) ∙ t)

  -- what it does not have
  pub less_none : (j : ℕ) → bit m j ≡ true → bit less j ≡ false → j ≡ v
  less_none j t f = ⊎_elim (λ e. e) (λ ne. absurd (both_ways _ f (less_other j ne t))) (cases_eq j v)

-- ---- one class

-- left is what is not in the class, and free what may still be put into it
pub record Taking (p : Picture) (m left free : ℕ) : Type 0 where
  pub within : Within (bit left) (bit m)
  pub inside : Within (bit free) (bit left)
  pub class : Class p m left
  pub apart : (i j : ℕ) → bit m i ≡ true → bit left i ≡ false → bit free j ≡ true → joined p i j ≡ false

pub taking_none : (p : Picture) (m : ℕ) → Taking p m m m
taking_none p m = record {
  within = λ i t. t;
  inside = λ i t. t;
  class = λ i j t f. absurd (both_ways _ f t);
  apart = λ i j t f. absurd (both_ways _ f t);
}

module _ (p : Picture) (m left free v left' rest row free' : ℕ) (st : Taking p m left free) (vl : v < 64) (vf : bit free v ≡ true) (isleft : (j : ℕ) → bit left' j ≡ (bit left j && not (eqb j v))) (isrest : (j : ℕ) → bit rest j ≡ (bit free j && not (eqb j v))) (isrow : row ≡ neighbours p v) (isfree : (j : ℕ) → bit free' j ≡ (bit rest j && not (bit row j))) where
  out : (i : ℕ) → bit m i ≡ true → bit left' i ≡ false → (bit left i ≡ false) ⊎ (i ≡ v)
  out i t f = ⊎_elim (λ y. inr (less_none left left' v isleft i y f)) inl (cases_Bool (bit left i))

  still : (j : ℕ) → bit free' j ≡ true → bit free j ≡ true
  still j t = less_within free rest v isrest j (and_parts _ _ (sym (isfree j) ∙ t)).0

  -- what is free has no neighbour in the class
  far : (j : ℕ) → bit free' j ≡ true → joined p v j ≡ false
  far j t = ap (λ (x : ℕ). bit x j) (sym isrow) ∙ not-true _ (and_parts _ _ (sym (isfree j) ∙ t)).1

  -- nor has v
  near_v : (j : ℕ) → bit m j ≡ true → bit left j ≡ false → joined p v j ≡ false
  near_v j t f = p.even v j ∙ st.apart j v t f vf

  pub taking_more : Taking p m left' free'
  taking_more = record {
    within = λ i t. st.within i (less_within left left' v isleft i t);
    inside = λ i t. less_other left left' v isleft i (less_not free rest v isrest i (and_parts _ _ (sym (isfree i) ∙ t)).0) (st.inside i (still i t));
    class = λ i j t f u h. ⊎_elim
        (λ a. ⊎_elim (λ b. st.class i j t a u b) (λ (e : j ≡ v). rw e (st.apart i v t a vf)) (out j u h))
        (λ (d : i ≡ v). ⊎_elim (λ b. rw d (near_v j u b)) (λ (e : j ≡ v). rw (d, e) (p.loopless v)) (out j u h))
        (out i t f);
    apart = λ i j t f u. ⊎_elim (λ a. st.apart i j t a (still j u)) (λ (d : i ≡ v). rw d (far j u)) (out i t f);
  }

  pub taking_less : count (bit free') 64 < count (bit free) 64
  taking_less =
      let a = count_less (bit free) (bit rest) v 64 vl vf (less_self free rest v isrest) (λ c ne. sym (isrest c ∙ and_true (bit free c) (not (eqb c v)) (not_from_false _ (ne_eqb c v ne)))) in
      let b = count_mono (bit free') (bit rest) 64 (λ i _ t. (and_parts _ _ (sym (isfree i) ∙ t)).0) in
      omega arith

pub taking_all : (p : Picture) (m left free : ℕ) → Taking p m left free → Within (bit left) (bit m) × Class p m left
taking_all p m left free st = (st.within, st.class)

-- ---- classes one after another

pub cut_none : (p : Picture) (m : ℕ) → Cut p m m 0
cut_none p m K k av =
    let e = count_empty K 64 (λ i _. ⊎_elim (λ t. absurd (both_ways _ (av i t) (k.inside i t))) (λ f. f) (cases_Bool (K i))) in
    omega arith

pub cut_more : (p : Picture) (m left next n : ℕ) → Class p left next → Cut p m left n → Cut p m next (n + 1)
cut_more p m left next n class cut K k av =
    let s = count_split K (bit left) 64 in
    let x = count_one (λ i. K i && bit left i) 64 (λ i j _ _ t u. one i j (and_parts _ _ t) (and_parts _ _ u)) in
    let outside : Clique p m (λ i. K i && not (bit left i)) = record {
      placed = λ i t. k.placed i (and_parts _ _ t).0;
      inside = λ i t. k.inside i (and_parts _ _ t).0;
      joins = λ i j t u. k.joins i j (and_parts _ _ t).0 (and_parts _ _ u).0;
    } in
    let y = cut (λ i. K i && not (bit left i)) outside (λ i t. not-true (bit left i) (and_parts (K i) (not (bit left i)) t).1) in
    omega arith
  where
    one : (i j : ℕ) → (K i ≡ true) × (bit left i ≡ true) → (K j ≡ true) × (bit left j ≡ true) → i ≡ j
    one i j t u =
        ⊎_elim (λ e. e) (λ ne. absurd (both_ways _ (class i j t.1 (av i t.0) u.1 (av j u.0)) (k.joins i j t.0 u.0 ne))) (cases_eq i j)

pub cut_weaker : (p : Picture) (m b n n' : ℕ) → n ≤ n' → Cut p m b n → Cut p m b n'
cut_weaker p m b n n' h cut K k av = let a = cut K k av in omega arith

-- where nothing is large enough
pub cut_few : (p : Picture) (m n : ℕ) → AtMost p m n → Cut p m 0 n
cut_few p m n most K k _ = most K k

pub nothing_within : (m : ℕ) → Within (bit 0) (bit m)
nothing_within m i t = absurd (both_ways _ (bit_zero i) t)

-- where nothing is left
pub cut_all : (p : Picture) (m b n : ℕ) → b ≡ 0 → Cut p m b n → AtMost p m n
cut_all p m b n e cut K k = cut K k (λ i _. bit_none b i e)

-- ---- what is left to branch on when v is taken

module _ (p : Picture) (m b v rest less n : ℕ) (isrest : (j : ℕ) → bit rest j ≡ (bit m j && not (eqb j v))) (isless : (j : ℕ) → bit less j ≡ (bit b j && not (eqb j v))) where
  pub taken_within : Within (bit b) (bit m) → Within (bit less) (bit rest)
  taken_within w j t = less_other m rest v isrest j (less_not b less v isless j t) (w j (less_within b less v isless j t))

  pub taken_cut : Cut p m b n → Cut p rest less n
  taken_cut c K k av =
      c K
      (record { placed = k.placed; inside = λ i t. less_within m rest v isrest i (k.inside i t); joins = k.joins })
      (λ i t. ⊎_elim (λ y. absurd (less_not m rest v isrest i (k.inside i t) (less_none b less v isless i y (av i t)))) (λ f. f) (cases_Bool (bit b i)))
