-- The largest pair that qualifies, from the largest degree of each class.
use Rattle.std.proofs.Common.{◌≡◌, ℕ, ◌+◌, ◌<◌, ◌≤◌, max, Bool, true, cond, not, ◌&&◌, eqb, leb, List, length, map, get_or, sym, refl, ap, ◌∙◌, inl, inr, arith}
use Rattle.std.proofs.lemmas.List.{length-map, get_or-map}
use Rattle.std.proofs.lemmas.Bool.{cases_Bool, cases_lt, eq-eqb, ne_eqb, le-leb, lt-leb, and_from, and_left, and_right, cond-true, cond-false}
use Rattle.finite.specs.Finite.{any, count}
use Rattle.finite.specs.Masks.{bit}
use Rattle.finite.proofs.Counts.{count_same, count_le}
use Rattle.finite.proofs.Masks.{bit_none}
use Rattle.grids.specs.Largest.{most, reaches, reaching, qualifies, largest, at_least, top}
use Rattle.grids.proofs.Largest.{most_le, most_more, most_same, most_gap, most_without, top_reaches}

pub at_least_le : (ts : List ℕ) (s : ℕ) → at_least ts s ≤ length ts
at_least_le ts s = count_le (λ k. leb s (get_or ts k 0)) (length ts)

-- a class without members
pub top_none : (degree : ℕ → ℕ) (class : ℕ) → class ≡ 0 → top degree class ≡ 0
top_none degree class e =
    let h = most_le (λ i. cond (bit class i) (degree i) 0) 64 0 (λ i l. let v = cond-false (bit class i) (degree i) 0 (bit_none class i e) in omega arith) in
    omega arith

-- one member taken out
pub top_without : (degree : ℕ → ℕ) (m m' i : ℕ) → i < 64 → bit m i ≡ true → ((j : ℕ) → bit m' j ≡ (bit m j && not (eqb j i))) → top degree m ≡ max (degree i) (top degree m')
top_without degree m m' i l t bits =
    most_without degree (bit m) (bit m') i 64 l t (bits i ∙ and_right (bit m i) (not (eqb i i)) (ap not (eq-eqb i i refl))) (λ c ne. sym (bits c ∙ rw (ne_eqb c i ne) (whole (bit m c))))
  where
    whole : (x : Bool) → (x && true) ≡ x
    whole x = grind (arith, cases_Bool x)

-- the largest degrees of the classes tell how many contain s or more
pub tops_reach : (degree : ℕ → ℕ) (cs : List ℕ) (s : ℕ) → ((k : ℕ) → k < length cs → any (bit (get_or cs k 0)) 64 ≡ true) → at_least (map (top degree) cs) s ≡ reaching degree cs s
tops_reach degree cs s some =
    ap (count (λ k. leb s (get_or (map (top degree) cs) k 0))) (length-map cs (top degree)) ∙ count_same (λ k. leb s (get_or (map (top degree) cs) k 0)) (λ k. reaches degree s (get_or cs k 0)) (length cs) (λ k h. ap (leb s) (get_or-map (top degree) cs k 0 0 h) ∙ top_reaches degree s (get_or cs k 0) (some k h))

-- ---- the pairs with one s, for r in turn

module _ (t s : ℕ) (w : ℕ → ℕ) where
  pair_le : (r : ℕ) → cond (leb r t && leb s (w r)) (r + s) 0 ≤ r + s
  pair_le r =
      elim (cases_Bool (leb r t && leb s (w r))) [
        | inl y ↦ let v = cond-true (leb r t && leb s (w r)) (r + s) 0 y in omega arith
        | inr y ↦ let v = cond-false (leb r t && leb s (w r)) (r + s) 0 y in omega arith
      ]

  pub pair_yes : (r : ℕ) → r ≤ t → s ≤ w r → r + s ≡ most (λ r. cond (leb r t && leb s (w r)) (r + s) 0) (r + 1)
  pair_yes r l h =
      let m = most_more (λ r. cond (leb r t && leb s (w r)) (r + s) 0) r in
      let v = cond-true (leb r t && leb s (w r)) (r + s) 0 (and_from (leb r t) (leb s (w r)) (le-leb r t l) (le-leb s (w r) h)) in
      let b = most_le (λ r. cond (leb r t && leb s (w r)) (r + s) 0) r (r + s) (λ k j. let p = pair_le k in omega arith) in
      omega arith

  pub pair_no : (r : ℕ) → w r < s → most (λ r. cond (leb r t && leb s (w r)) (r + s) 0) r ≡ most (λ r. cond (leb r t && leb s (w r)) (r + s) 0) (r + 1)
  pair_no r h =
      let m = most_more (λ r. cond (leb r t && leb s (w r)) (r + s) 0) r in
      let v = cond-false (leb r t && leb s (w r)) (r + s) 0 (and_right (leb r t) (leb s (w r)) (lt-leb s (w r) h)) in
      omega arith

  pub pair_all : t ≤ 64 → most (λ r. cond (leb r t && leb s (w r)) (r + s) 0) (t + 1) ≡ most (λ r. cond (leb r t && leb s (w r)) (r + s) 0) 65
  pair_all l =
      sym (most_gap (λ r. cond (leb r t && leb s (w r)) (r + s) 0) (t + 1) 65 (omega arith) (λ k h. cond-false (leb k t && leb s (w k)) (k + s) 0 (and_left (leb k t) (leb s (w k)) (lt-leb k t (omega arith)))))

-- ---- all pairs, for s in turn

module _ (us ws : List ℕ) where
  abbrev row : ℕ → ℕ
  row s = most (λ r. cond (qualifies (at_least us) (at_least ws) r s) (r + s) 0) 65

  -- xs has the counts of the second list as far as they are asked for
  pub row_is : (xs : List ℕ) (s : ℕ) → ((r : ℕ) → r < length us + 1 → get_or xs r 0 ≡ at_least ws r) → most (λ r. cond (leb r (at_least us s) && leb s (get_or xs r 0)) (r + s) 0) 65 ≡ most (λ r. cond (qualifies (at_least us) (at_least ws) r s) (r + s) 0) 65
  row_is xs s h =
      most_same (λ r. cond (leb r (at_least us s) && leb s (get_or xs r 0)) (r + s) 0) (λ r. cond (qualifies (at_least us) (at_least ws) r s) (r + s) 0) 65 (λ r l. elim (cases_lt (at_least us s) r) [
        | inl m ↦ let z = lt-leb r (at_least us s) m in
            cond-false _ (r + s) 0 (and_left (leb r (at_least us s)) (leb s (get_or xs r 0)) z) ∙ sym (cond-false _ (r + s) 0 (and_left (leb r (at_least us s)) (leb s (at_least ws r)) z))
        | inr m ↦ let e = h r (omega (arith, at_least_le us s)) in ap (λ (v : ℕ). cond (leb r (at_least us s) && leb s v) (r + s) 0) e
      ])

  pub rows_all : length ws ≤ 64 → most (λ s. most (λ r. cond (qualifies (at_least us) (at_least ws) r s) (r + s) 0) 65) (length ws + 1) ≡ largest (at_least us) (at_least ws)
  rows_all l =
      sym (most_gap row (length ws + 1) 65 (omega arith) (λ s h. let b = most_le (λ r. cond (qualifies (at_least us) (at_least ws) r s) (r + s) 0) 65 0 (λ r m. let v = cond-false (qualifies (at_least us) (at_least ws) r s) (r + s) 0 (and_right (leb r (at_least us s)) (leb s (at_least ws r)) (lt-leb s (at_least ws r) (omega (arith, at_least_le ws r)))) in omega arith) in omega arith))

-- ---- the turns of the loops, over the values that they have

pub top_turn : (degree : ℕ → ℕ) (class rest rest' i best found best' : ℕ) → max best (top degree rest) ≡ top degree class → i < 64 → bit rest i ≡ true → ((j : ℕ) → bit rest' j ≡ (bit rest j && not (eqb j i))) → found ≡ degree i → best' ≡ max best found → max best' (top degree rest') ≡ top degree class
top_turn degree class rest rest' i best found best' inv l t bits ef eb =
    let e = top_without degree rest rest' i l t bits in omega arith

pub top_all : (degree : ℕ → ℕ) (class rest best : ℕ) → max best (top degree rest) ≡ top degree class → rest ≡ 0 → best ≡ top degree class
top_all degree class rest best inv e = let z = top_none degree rest e in omega arith

pub rows_turn : (us ws xs : List ℕ) (s best found best' : ℕ) → ((r : ℕ) → r < length us + 1 → get_or xs r 0 ≡ at_least ws r) → best ≡ most (λ s. most (λ r. cond (qualifies (at_least us) (at_least ws) r s) (r + s) 0) 65) s → found ≡ most (λ r. cond (leb r (at_least us s) && leb s (get_or xs r 0)) (r + s) 0) 65 → best' ≡ max best found → best' ≡ most (λ s. most (λ r. cond (qualifies (at_least us) (at_least ws) r s) (r + s) 0) 65) (s + 1)
rows_turn us ws xs s best found best' h inv ef eb =
    let e = row_is us ws xs s h in
    let m = most_more (λ s. most (λ r. cond (qualifies (at_least us) (at_least ws) r s) (r + s) 0) 65) s in
    omega arith
