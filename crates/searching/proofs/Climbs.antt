-- A largest clique of the first places of a picture, place by place.
use Rattle.std.proofs.Common.{◌≡◌, ℕ, ◌+◌, ◌<◌, ◌≤◌, Bool, true, false, not, ◌&&◌, ◌||◌, eqb, ltb, ◌⊎◌, sym, refl, ap, ◌∙◌, inl, inr, ⊎_elim, arith}
use Rattle.std.proofs.lemmas.Bool.{cases_Bool, cases_eq, eqb-true, eq-eqb, ne_eqb, and_parts, and_from, and_right, or_cases, or_right, both_ways, not-true, not_from_false, ltb-true, lt-ltb}
use Rattle.finite.specs.Finite.{count}
use Rattle.finite.specs.Masks.{bit}
use Rattle.finite.proofs.Counts.{count_less, count_empty}
use Rattle.finite.proofs.Masks.{bit_zero}
use Rattle.pictures.specs.Pictures.{Clique, joined, neighbours, places}
use Rattle.pictures.specs.declared.shape.Picture.{Picture}
use Rattle.searching.specs.Answers.{AtMost, Largest}
use Rattle.searching.specs.Climbed.{Joined, Climbed}

pub climbed_none : (p : Picture) → Climbed p 0 0 0
climbed_none p = record {
  clique = record { low = λ i t. absurd (both_ways _ (bit_zero i) t); joins = λ i j t. absurd (both_ways _ (bit_zero i) t) };
  size = count_empty (bit 0) 64 (λ i _. bit_zero i);
  most = λ K k. let e = count_empty K 64 (λ i _. ⊎_elim (λ t. absurd (let l = k.low i t in omega arith)) (λ f. f) (cases_Bool (K i))) in omega arith;
}

module _ (p : Picture) (v best len under row later : ℕ) (st : Climbed p v best len) (vl : v < 64) (vp : v < places p) (isunder : (j : ℕ) → bit under j ≡ ltb j v) (isrow : row ≡ neighbours p v) (islater : (j : ℕ) → bit later j ≡ (bit under j && bit row j)) where
  later_parts : (j : ℕ) → bit later j ≡ true → (j < v) × (joined p v j ≡ true)
  later_parts j t =
      let a = and_parts _ _ (sym (islater j) ∙ t) in
      (ltb-true _ _ (sym (isunder j) ∙ a.0), ap (λ (x : ℕ). bit x j) (sym isrow) ∙ a.1)

  -- a clique without v is one of the places below it
  without_v : (K : ℕ → Bool) → Joined p (v + 1) K → K v ≡ false → count K 64 ≤ len
  without_v K k f = st.most K (record {
    low = λ i t. let l = k.low i t in ⊎_elim (λ (e : i ≡ v). absurd (both_ways _ f (ap K (sym e) ∙ t))) (λ ne. omega arith) (cases_eq i v);
    joins = k.joins;
  })

  -- a clique with v has the rest of it among the later neighbours
  with_v : (K : ℕ → Bool) (n : ℕ) → Joined p (v + 1) K → K v ≡ true → AtMost p later n → count K 64 ≤ n + 1
  with_v K n k y most =
      let M : ℕ → Bool = λ i. K i && not (eqb i v) in
      let c : count K 64 ≡ count M 64 + 1 = count_less K M v 64 vl y (and_right _ _ (ap not (eq-eqb v v refl))) (λ i ne. sym (and_true (K i) (not (eqb i v)) (not_from_false _ (ne_eqb i v ne)))) in
      let parts : (i : ℕ) → M i ≡ true → (K i ≡ true) × (i ≡ v → ⊥) = λ i t. (let a = and_parts (K i) (not (eqb i v)) t in (a.0, λ e. both_ways _ (not-true _ a.1) (eq-eqb i v e))) in
      let inner : Clique p later M = record {
        placed = λ i t. (let l = k.low i (parts i t).0 in omega arith);
        inside = λ i t. (let a = parts i t in let l = k.low i a.0 in
            islater i ∙ and_from _ _ (isunder i ∙ lt-ltb _ _ (below i l a.1)) (ap (λ (x : ℕ). bit x i) isrow ∙ k.joins v i y a.0 (λ e. a.1 (sym e))));
        joins = λ i j t u. k.joins i j (parts i t).0 (parts j u).0;
      } in
      let b = most M inner in
      omega arith
    where
      and_true : (a b : Bool) → b ≡ true → (a && b) ≡ a
      and_true a b t = rw t (grind (arith, cases_Bool a))

      below : (i : ℕ) → i < v + 1 → (i ≡ v → ⊥) → i < v
      below i l ne = omega arith

  -- no larger clique has v
  pub climbed_same : (n : ℕ) → AtMost p later n → n < len → Climbed p (v + 1) best len
  climbed_same n most l = record {
    clique = record { low = λ i t. (let h = st.clique.low i t in omega arith); joins = st.clique.joins };
    size = st.size;
    most = λ K k. ⊎_elim (λ y. (let a = with_v K n k y most in omega arith)) (λ f. without_v K k f) (cases_Bool (K v));
  }

  -- a largest clique has v
  pub climbed_more : (found chosen : ℕ) → Largest p later found → len ≤ count (bit found) 64 → ((j : ℕ) → bit chosen j ≡ (bit found j || eqb j v)) → Climbed p (v + 1) chosen (count (bit found) 64 + 1)
  climbed_more found chosen lg l is =
      let member : (i : ℕ) → bit chosen i ≡ true → (bit found i ≡ true) ⊎ (i ≡ v) = λ i t. ⊎_elim inl (λ e. inr (eqb-true i v e)) (or_cases _ _ (sym (is i) ∙ t)) in
      let near : (i : ℕ) → bit found i ≡ true → (i < v) × (joined p v i ≡ true) = λ i t. later_parts i (lg.clique.inside i t) in
      let free : bit found v ≡ false = ⊎_elim (λ t. absurd (let a = (near v t).0 in omega arith)) (λ f. f) (cases_Bool (bit found v)) in
      record {
        clique = record {
          low = λ i t. ⊎_elim (λ a. (let b = (near i a).0 in omega arith)) (λ (e : i ≡ v). omega arith) (member i t);
          joins = λ i j t u ne. ⊎_elim
              (λ a. ⊎_elim (λ b. lg.clique.joins i j a b ne) (λ (e : j ≡ v). rw e (p.even i v ∙ (near i a).1)) (member j u))
              (λ (d : i ≡ v). ⊎_elim (λ b. rw d (near j b).1) (λ (e : j ≡ v). absurd (ne (d ∙ sym e))) (member j u))
              (member i t);
        };
        size = count_less (bit chosen) (bit found) v 64 vl (is v ∙ or_right _ _ (eq-eqb v v refl)) free (λ i ne. is i ∙ rw (ne_eqb i v ne) (grind (arith, cases_Bool (bit found i))));
        most = λ K k. ⊎_elim (λ y. with_v K (count (bit found) 64) k y lg.most) (λ f. (let a = without_v K k f in omega arith)) (cases_Bool (K v));
      }

-- at the end it is a largest clique of the picture
pub climbed_all : (p : Picture) (v best len m : ℕ) → v ≡ places p → ((j : ℕ) → bit m j ≡ ltb j v) → Climbed p v best len → Largest p m best
climbed_all p v best len m e is st = record {
  clique = record {
    placed = λ i t. (let l = st.clique.low i t in omega arith);
    inside = λ i t. is i ∙ lt-ltb _ _ (st.clique.low i t);
    joins = st.clique.joins;
  };
  most = λ K k. (let a = st.most K (record { low = λ i t. ltb-true _ _ (sym (is i) ∙ k.inside i t); joins = k.joins }) in omega (arith, st.size));
}
