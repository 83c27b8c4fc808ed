-- A level of the search: a clique that is chosen, and what may still be added to it.
use Rattle.std.proofs.Common.{◌≡◌, ℕ, ◌+◌, ◌<◌, ◌≤◌, Bool, true, false, not, ◌&&◌, ◌||◌, eqb, ◌⊎◌, sym, refl, ap, ◌∙◌, inl, inr, ⊎_elim, arith}
use Rattle.std.proofs.lemmas.Bool.{cases_Bool, cases_eq, eqb-true, eq-eqb, ne_eqb, and_parts, and_from, or_cases, or_left, or_right, both_ways, not-true, not_from_false}
use Rattle.finite.specs.Finite.{count}
use Rattle.finite.specs.Masks.{bit}
use Rattle.finite.specs.Supports.{Within}
use Rattle.finite.proofs.Counts.{count_mono, count_less, count_empty}
use Rattle.finite.proofs.Splits.{count_split}
use Rattle.finite.proofs.Masks.{bit_none}
use Rattle.pictures.specs.Pictures.{Clique, joined, places}
use Rattle.pictures.specs.declared.shape.Picture.{Picture}
use Rattle.searching.specs.Answers.{AtMost}

-- h is a clique of n members inside m, and each member of o may be added to it
pub record Level (p : Picture) (m o h n : ℕ) : Type 0 where
  pub clique : Clique p m (bit h)
  pub size : count (bit h) 64 ≡ n
  pub placed : (i : ℕ) → bit o i ≡ true → i < places p
  pub inside : (i : ℕ) → bit o i ≡ true → bit m i ≡ true
  pub joins : (i j : ℕ) → bit h i ≡ true → bit o j ≡ true → joined p i j ≡ true

-- K is h with some members of o
pub record Extends (K : ℕ → Bool) (o h : ℕ) : Type 0 where
  pub holds : Within (bit h) K
  pub rest : (i : ℕ) → K i ≡ true → (bit h i ≡ true) ⊎ (bit o i ≡ true)

-- a clique inside o has no more members than o
pub few_inside : (p : Picture) (o : ℕ) → AtMost p o (count (bit o) 64)
few_inside p o K k = count_mono K (bit o) 64 (λ i _ t. k.inside i t)

-- a mask with a member is not 0
pub some_inside : (o n : ℕ) → n < count (bit o) 64 → 0 < o
some_inside o n h = ⊎_elim (λ (e : o ≡ 0). let z = count_empty (bit o) 64 (λ i _. bit_none o i e) in absurd (omega arith)) (λ ne. omega arith) (cases_eq o 0)

-- ---- one level

module _ (p : Picture) (m : ℕ) where
  -- a clique that extends h by members of o is no larger than h and the largest clique inside o
  pub dead : (o h n a : ℕ) (K : ℕ → Bool) → Level p m o h n → Clique p m K → Extends K o h → AtMost p o a → count K 64 ≤ n + a
  dead o h n a K lv k ex most =
      let s = count_split K (bit h) 64 in
      let x = count_mono (λ i. K i && bit h i) (bit h) 64 (λ i _ t. (and_parts (K i) (bit h i) t).1) in
      let y = most (λ i. K i && not (bit h i)) (record {
        placed = λ i t. k.placed i (and_parts _ _ t).0;
        inside = λ i t. let ps = and_parts _ _ t in ⊎_elim (λ z. absurd (both_ways _ (not-true _ ps.1) z)) (λ z. z) (ex.rest i ps.0);
        joins = λ i j t u. k.joins i j (and_parts _ _ t).0 (and_parts _ _ u).0;
      }) in
      omega (arith, lv.size)

  pub shrink : (o o' h n : ℕ) → Within (bit o') (bit o) → Level p m o h n → Level p m o' h n
  shrink o o' h n w lv = record {
    clique = lv.clique;
    size = lv.size;
    placed = λ i t. lv.placed i (w i t);
    inside = λ i t. lv.inside i (w i t);
    joins = λ i j t u. lv.joins i j t (w j u);
  }

  -- v moves from what may be added to what is picked
  pub grow : (o h n v next chosen : ℕ) → v < 64 → bit o v ≡ true → ((j : ℕ) → bit chosen j ≡ (bit h j || eqb j v)) → Within (bit next) (bit o) → ((j : ℕ) → bit next j ≡ true → joined p v j ≡ true) → Level p m o h n → Level p m next chosen (n + 1)
  grow o h n v next chosen vl vo ch sub nb lv =
      let member : (i : ℕ) → bit chosen i ≡ true → (bit h i ≡ true) ⊎ (i ≡ v) = λ i t. ⊎_elim inl (λ e. inr (eqb-true i v e)) (or_cases _ _ (sym (ch i) ∙ t)) in
      let free : bit h v ≡ false = ⊎_elim (λ t. absurd (both_ways _ (p.loopless v) (lv.joins v v t vo))) (λ f. f) (cases_Bool (bit h v)) in
      let c = count_less (bit chosen) (bit h) v 64 vl (ch v ∙ or_right _ _ (eq-eqb v v refl)) free (λ i ne. ch i ∙ rw (ne_eqb i v ne) (grind (arith, cases_Bool (bit h i)))) in
      record {
        clique = record {
          placed = λ i t. ⊎_elim (lv.clique.placed i) (λ e. rw e (lv.placed v vo)) (member i t);
          inside = λ i t. ⊎_elim (lv.clique.inside i) (λ e. rw e (lv.inside v vo)) (member i t);
          joins = λ i j t u ne. ⊎_elim
              (λ x. ⊎_elim (λ y. lv.clique.joins i j x y ne) (λ e. rw e (lv.joins i v x vo)) (member j u))
              (λ d. ⊎_elim (λ y. rw d (p.even v j ∙ lv.joins j v y vo)) (λ e. absurd (ne (d ∙ sym e))) (member j u))
              (member i t);
        };
        size = omega (arith, lv.size);
        placed = λ i t. lv.placed i (sub i t);
        inside = λ i t. lv.inside i (sub i t);
        joins = λ i j t u. ⊎_elim (λ x. lv.joins i j x (sub j u)) (λ d. rw d (nb j u)) (member i t);
      }

  -- a clique that extends the level extends it without v, or with v and its neighbours
  pub parts : (o h v rest next chosen : ℕ) → ((j : ℕ) → bit rest j ≡ (bit o j && not (eqb j v))) → ((j : ℕ) → bit chosen j ≡ (bit h j || eqb j v)) → ((j : ℕ) → bit next j ≡ (bit rest j && joined p v j)) → (K : ℕ → Bool) → Clique p m K → Extends K o h → Extends K rest h ⊎ Extends K next chosen
  parts o h v rest next chosen isrest ischosen isnext K k ex = ⊎_elim taken (λ f. inl (passed f)) (cases_Bool (K v))
    where
      others : (i : ℕ) → (i ≡ v → ⊥) → bit o i ≡ true → bit rest i ≡ true
      others i ne t = isrest i ∙ and_from _ _ t (not_from_false _ (ne_eqb i v ne))

      passed : K v ≡ false → Extends K rest h
      passed f = record {
        holds = ex.holds;
        rest = λ i t. ⊎_elim inl (λ x. inr (others i (λ e. both_ways _ f (ap K (sym e) ∙ t)) x)) (ex.rest i t);
      }

      taken : K v ≡ true → Extends K rest h ⊎ Extends K next chosen
      taken y = inr (record {
        holds = λ i t. ⊎_elim (ex.holds i) (λ e. ap K (eqb-true i v e) ∙ y) (or_cases _ _ (sym (ischosen i) ∙ t));
        rest = λ i t. ⊎_elim
            (λ (e : i ≡ v). inl (ischosen i ∙ or_right _ _ (eq-eqb i v e)))
            (λ ne. ⊎_elim (λ x. inl (ischosen i ∙ or_left _ _ x)) (λ x. inr (isnext i ∙ and_from _ _ (others i ne x) (k.joins v i y t (λ e. ne (sym e))))) (ex.rest i t))
            (cases_eq i v);
      })
