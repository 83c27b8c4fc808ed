-- More laws of `count` and `any`: a set in two parts, a set with one member at most.
use Rattle.std.proofs.Common.{◌≡◌, ℕ, zero, suc, ◌+◌, ◌<◌, ◌≤◌, Bool, true, false, cond, not, ◌&&◌, refl, inl, inr, ⊎_elim, arith}
use Rattle.std.proofs.lemmas.Bool.{cases_Bool, both_ways}
use Rattle.finite.specs.Finite.{any, count}
use Rattle.finite.proofs.Counts.{count_empty, any_false}

pub count_split : (p r : ℕ → Bool) (n : ℕ) → count p n ≡ count (λ i. p i && r i) n + count (λ i. p i && not (r i)) n
unfolding count
count_split p r zero = refl
count_split p r (suc n) =
    let ih = count_split p r n in
    grind (arith, cases_Bool (p n), cases_Bool (r n))

-- at most one where any two that pass are the same
pub count_one : (p : ℕ → Bool) (n : ℕ) → ((i j : ℕ) → i < n → j < n → p i ≡ true → p j ≡ true → i ≡ j) → count p n ≤ 1
unfolding count
count_one p zero h = omega arith
count_one p (suc n) h = ⊎_elim here (there (count_one p n (λ i j l m. h i j (omega arith) (omega arith)))) (cases_Bool (p n))
  where
    here : p n ≡ true → count p (suc n) ≤ 1
    here e =
        let none = count_empty p n (λ i l. ⊎_elim (λ y. absurd (let z = h i n (omega arith) (omega arith) y e in omega arith)) (λ f. f) (cases_Bool (p i))) in
        rw (e, none) (omega arith)

    there : count p n ≤ 1 → p n ≡ false → count p (suc n) ≤ 1
    there ih e = rw e ih

pub count_front : (p : ℕ → Bool) (n : ℕ) → count p (suc n) ≡ cond (p 0) 1 0 + count (λ i. p (suc i)) n
unfolding count
count_front p zero = grind (arith, cases_Bool (p 0))
count_front p (suc n) =
    let ih = count_front p n in
    grind (arith, cases_Bool (p (suc n)), cases_Bool (p 0))

pub any_from : (p : ℕ → Bool) (n c : ℕ) → c < n → p c ≡ true → any p n ≡ true
any_from p n c l e =
    elim (cases_Bool (any p n)) [ inl y ↦ y | inr y ↦ absurd (both_ways (p c) (any_false p n y c l) e) ]
