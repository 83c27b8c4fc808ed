-- Steps of loops over bytes and counts.
use Rattle.std.proofs.Common.{◌≡◌, ℕ, ◌+◌, ◌<◌, ◌≤◌, min, true, false, cond, ◌⊎◌, List, length, get_or, take, set, sym, refl, ap, ◌∙◌, subst, inl, inr, arith, get_or-set_other, get_or-set_same}
use Rattle.std.proofs.lemmas.List.{take_more}
use Rattle.std.proofs.lemmas.Bool.{cases_Bool, cases_eq, cases_lt, both_ways, eq-eqb, ne_eqb}
use Rattle.std.proofs.lemmas.Bool.Decides.{nat_tests}
use Rattle.finite.specs.Finite.{has}
use Rattle.finite.proofs.Counts.{has_push}
use Rattle.supports.specs.Peel.{alive}
use Rattle.supports.proofs.Peels.{alive_below, alive_byte, alive_yes}
use Rattle.supports.proofs.Descents.{LowestCount}

pub revived_more : (taken before living : List ℕ) (j : ℕ) → j < length taken → get_or taken j 0 < length living → ((c : ℕ) → get_or living c 0 ≡ cond (has (take j taken) c) 1 (get_or before c 0)) → (c : ℕ) → get_or (set living (get_or taken j 0) 1) c 0 ≡ cond (has (take (j + 1) taken) c) 1 (get_or before c 0)
revived_more taken before living j l within f c =
    let h = ap (λ p. has p c) (take_more taken j 0 l) ∙ has_push (take j taken) (get_or taken j 0) c in
    let k = f c in
    elim (cases_eq c (get_or taken j 0)) [
      | inl i ↦ let g = ap (λ x. get_or (set living (get_or taken j 0) 1) x 0) i ∙ get_or-set_same living (get_or taken j 0) 1 0 within in
          let q = eq-eqb (get_or taken j 0) c (sym i) in grind (arith, nat_tests)
      | inr i ↦ let g = get_or-set_other living (get_or taken j 0) c 1 0 i in let q = ne_eqb (get_or taken j 0) c (λ z. i (sym z)) in grind (arith, nat_tests)
    ]

-- one item more
pub alive_wider : (c : ℕ) (living : List ℕ) (k : ℕ) → alive (c + 1) living k ≡ true → (alive c living k ≡ true) ⊎ ((k ≡ c) × (get_or living c 0 ≡ 1))
alive_wider c living k y =
    let l = alive_below (c + 1) living k y in
    let b = alive_byte (c + 1) living k y in
    elim (cases_eq k c) [ inl e ↦ inr (e, ap (λ v. get_or living v 0) (sym e) ∙ b) | inr e ↦ inl (alive_yes c living k (omega arith) b) ]

pub alive_narrow : (c : ℕ) (living : List ℕ) (k : ℕ) → alive c living k ≡ true → alive (c + 1) living k ≡ true
alive_narrow c living k y = alive_yes (c + 1) living k (omega (arith, alive_below c living k y)) (alive_byte c living k y)

pub none_zero : (living : List ℕ) (k : ℕ) → alive 0 living k ≡ false
none_zero living k = elim (cases_Bool (alive 0 living k)) [ inr y ↦ y | inl y ↦ absurd (omega (arith, alive_below 0 living k y)) ]

pub none_more : (c : ℕ) (living : List ℕ) → ((k : ℕ) → alive c living k ≡ false) → (get_or living c 0 ≡ 1 → ⊥) → (k : ℕ) → alive (c + 1) living k ≡ false
none_more c living f ne k =
    elim (cases_Bool (alive (c + 1) living k)) [
      | inr y ↦ y
      | inl y ↦ elim (alive_wider c living k y) [ inl z ↦ absurd (both_ways (alive c living k) (f k) z) | inr z ↦ absurd (ne z.1) ]
    ]

pub lowest_first : (c : ℕ) (living counts : List ℕ) → ((k : ℕ) → alive c living k ≡ false) → get_or living c 0 ≡ 1 → LowestCount (c + 1) living counts (get_or counts c 0)
lowest_first c living counts f b =
    record {
      item = c;
      member = alive_yes (c + 1) living c (omega arith) b;
      count_is = refl;
      least = λ k y. elim (alive_wider c living k y) [ inl z ↦ absurd (both_ways (alive c living k) (f k) z) | inr z ↦ let h = ap (λ v. get_or counts v 0) z.0 in omega arith ];
    }

pub lowest_skip : (c : ℕ) (living counts : List ℕ) (low : ℕ) → LowestCount c living counts low → (get_or living c 0 ≡ 1 → low ≤ get_or counts c 0) → LowestCount (c + 1) living counts low
lowest_skip c living counts low w f =
    record {
      item = w.item;
      member = alive_narrow c living w.item w.member;
      count_is = w.count_is;
      least = λ k y. elim (alive_wider c living k y) [ inl z ↦ w.least k z | inr z ↦ let h = ap (λ v. get_or counts v 0) z.0 in let q = f z.1 in omega arith ];
    }

pub lowest_new : (c : ℕ) (living counts : List ℕ) (low : ℕ) → LowestCount c living counts low → get_or living c 0 ≡ 1 → get_or counts c 0 ≤ low → LowestCount (c + 1) living counts (get_or counts c 0)
lowest_new c living counts low w b l =
    record {
      item = c;
      member = alive_yes (c + 1) living c (omega arith) b;
      count_is = refl;
      least = λ k y. elim (alive_wider c living k y) [ inl z ↦ omega (arith, w.least k z) | inr z ↦ let h = ap (λ v. get_or counts v 0) z.0 in omega arith ];
    }

pub lowest_min : (c : ℕ) (living counts : List ℕ) (low r : ℕ) → LowestCount c living counts low → get_or living c 0 ≡ 1 → r ≡ min low (get_or counts c 0) → LowestCount (c + 1) living counts r
lowest_min c living counts low r w b e =
    elim (cases_lt (get_or counts c 0) low) [
      | inl l ↦ let q : get_or counts c 0 ≡ r = omega arith in subst (LowestCount (c + 1) living counts) q (lowest_new c living counts low w b (omega arith))
      | inr l ↦ let q : low ≡ r = omega arith in subst (LowestCount (c + 1) living counts) q (lowest_skip c living counts low w (λ h. l))
    ]
