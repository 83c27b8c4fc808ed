-- Rows of bits, filled one by one.
use Rattle.std.proofs.Common.{◌≡◌, ℕ, zero, suc, ◌+◌, ◌/◌, ◌%◌, ◌<◌, ◌≤◌, Bool, true, false, ◌||◌, eqb, List, [], ◌++◌, length, get_or, set, replicate, sym, refl, ap, ◌∙◌, subst, inl, inr, arith, get_or-set_other, get_or-set_same}
use Rattle.std.proofs.lemmas.List.{get_or_append_left, length-set, length-replicate}
use Rattle.std.proofs.lemmas.Bool.{cases_eq, eq-eqb, ne_eqb}
use Rattle.std.proofs.lemmas.Bool.Decides.{nat_tests}
use Rattle.finite.specs.Masks.{bit}
use Rattle.finite.proofs.Masks.{bit_zero}
use Rattle.placings.specs.Rows.{linked, marked}

get_or-zeros : (n i : ℕ) → ◌≡◌ {A = ℕ} (get_or (replicate n 0) i 0) 0
get_or-zeros zero i = refl
get_or-zeros (suc n) zero = refl
get_or-zeros (suc n) (suc i) = get_or-zeros n i

pub blank_marked : (j : ℕ) → marked (replicate 4 0) j ≡ false
blank_marked j = ap (λ (x : ℕ). bit x (j % 64)) (get_or-zeros 4 (j / 64)) ∙ bit_zero (j % 64)

-- one more bit, at j
module _ (row : List ℕ) (j m : ℕ) (fits : j / 64 < length row) (is : (b : ℕ) → bit m b ≡ (bit (get_or row (j / 64) 0) b || eqb b (j % 64))) where
  marked_same : marked (set row (j / 64) m) j ≡ true
  marked_same =
      ap (λ (x : ℕ). bit x (j % 64)) (get_or-set_same row (j / 64) m 0 fits) ∙ is (j % 64) ∙ (let e = eq-eqb (j % 64) (j % 64) refl in grind (arith, nat_tests))

  marked_off : (b : ℕ) → (b ≡ j → ⊥) → marked (set row (j / 64) m) b ≡ marked row b
  marked_off b ne =
      elim (cases_eq (b / 64) (j / 64)) [
        | inr other ↦ ap (λ (x : ℕ). bit x (b % 64)) (get_or-set_other row (j / 64) (b / 64) m 0 other)
        | inl e ↦ let n : b % 64 ≡ j % 64 → ⊥ = λ q. ne (omega arith) in
            let f = ne_eqb (b % 64) (j % 64) n in
            ap (λ (x : ℕ). bit (get_or (set row (j / 64) m) x 0) (b % 64)) e
            ∙ ap (λ (x : ℕ). bit x (b % 64)) (get_or-set_same row (j / 64) m 0 fits)
            ∙ is (b % 64)
            ∙ (let z : (bit (get_or row (j / 64) 0) (b % 64) || eqb (b % 64) (j % 64)) ≡ bit (get_or row (j / 64) 0) (b % 64) = grind (arith, nat_tests) in z)
            ∙ ap (λ (x : ℕ). bit (get_or row x 0) (b % 64)) (sym e)
      ]

-- a row is filled up to j, by the test C
pub record Row (C : ℕ → Bool) (j : ℕ) (row : List ℕ) : Type 0 where
  pub long : length row ≡ 4
  pub done : (b : ℕ) → b < j → marked row b ≡ C b
  pub blank : (b : ℕ) → j ≤ b → b < 256 → marked row b ≡ false

pub row_none : (C : ℕ → Bool) → Row C 0 (replicate 4 0)
row_none C =
    record { long = length-replicate {A = ℕ} 4 0; done = λ b l. absurd (omega arith); blank = λ b l m. blank_marked b }

pub row_yes : (C : ℕ → Bool) (j m : ℕ) (row : List ℕ) → j < 256 → Row C j row → C j ≡ true → ((b : ℕ) → bit m b ≡ (bit (get_or row (j / 64) 0) b || eqb b (j % 64))) → Row C (j + 1) (set row (j / 64) m)
row_yes C j m row jl s y is =
    let fits : j / 64 < length row = omega (arith, s.long) in
    record {
      long = simp length-set s.long;
      done = λ b l. elim (cases_eq b j) [
        | inl e ↦ subst (λ v. marked (set row (j / 64) m) v ≡ C v) (sym e) (marked_same row j m fits is ∙ sym y)
        | inr ne ↦ marked_off row j m fits is b ne ∙ s.done b (omega arith)
      ];
      blank = λ b l bl. marked_off row j m fits is b (λ e. omega arith) ∙ s.blank b (omega arith) bl;
    }

pub row_no : (C : ℕ → Bool) (j : ℕ) (row : List ℕ) → j < 256 → Row C j row → C j ≡ false → Row C (j + 1) row
row_no C j row jl s y =
    record {
      long = s.long;
      done = λ b l. elim (cases_eq b j) [
        | inl e ↦ subst (λ v. marked row v ≡ C v) (sym e) (s.blank j (omega arith) jl ∙ sym y)
        | inr ne ↦ s.done b (omega arith)
      ];
      blank = λ b l bl. s.blank b (omega arith) bl;
    }

-- the rows below i are filled
abbrev pub Rows : (ℕ → ℕ → Bool) → ℕ → ℕ → List (List ℕ) → Type 0
Rows C n i rows = (a b : ℕ) → a < i → b < n → linked rows a b ≡ C a b

pub rows_none : (C : ℕ → ℕ → Bool) (n : ℕ) (rows : List (List ℕ)) → Rows C n 0 rows
rows_none C n rows a b l m = absurd (omega arith)

pub rows_more : (C : ℕ → ℕ → Bool) (n i : ℕ) (row : List ℕ) (rows : List (List ℕ)) → i < length rows → Rows C n i rows → ((b : ℕ) → b < n → marked row b ≡ C i b) → Rows C n (i + 1) (set rows i row)
rows_more C n i row rows l s here a b m q =
    elim (cases_eq a i) [
      | inl e ↦ ap (λ k. marked (get_or (set rows i row) k []) b) e ∙ ap (λ xs. marked xs b) (get_or-set_same rows i row [] l) ∙ here b q ∙ ap (λ k. C k b) (sym e)
      | inr ne ↦ ap (λ xs. marked xs b) (get_or-set_other rows i a row [] ne) ∙ s a b (omega arith) q
    ]

-- the same in front of others
pub rows_front : (C : ℕ → ℕ → Bool) (n i : ℕ) (rows rest : List (List ℕ)) → i ≤ length rows → Rows C n i rows → Rows C n i (rows ++ rest)
rows_front C n i rows rest l s a b m q =
    ap (λ xs. marked xs b) (get_or_append_left rows rest [] a (omega arith)) ∙ s a b m q
