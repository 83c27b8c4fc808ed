use Rattle.std.proofs.Common.{◌≡◌, ℕ, ◌<◌, true, false, List, length, Some, None, decimal, Option, sym, ap, ◌∙◌, subst, inl, inr, arith, rules, MatchOption}
use Rattle.std.specs.Str.{all_ascii_digits}
use Rattle.std.proofs.lemmas.Str.Parse.{IsNumeralModel, numerals_by_fold, digits_value_short}
use Rattle.std.proofs.lemmas.Fmt.{digits_decimal, digits_value-decimal, decimal-digits_value, length-decimal-le, decimal_nonempty, first_decimal, decimal_digit}
use Rattle.std.proofs.lemmas.Bool.{cases_Bool, cases_eq, and_from}
use Rattle.std.proofs.lemmas.Bool.Decides.{nat_tests}
use Rattle.fields.specs.Numerals.{Numeral, read_on, fair, numeral}

pub own : IsNumeralModel (λ ds. all_ascii_digits ds ≡ true) (read_on 0)
own = numerals_by_fold _ (search rules) read_on (search rules)

-- what is fair, and a numeral of digits
pub numeral_yes : (f : List ℕ) → fair f ≡ true → all_ascii_digits f ≡ true → numeral f ≡ Some (read_on 0 f)
unfolding numeral
numeral_yes f a b = rw (and_from (fair f) (all_ascii_digits f) a b)

pub numeral_unfair : (f : List ℕ) → fair f ≡ false → numeral f ≡ None
unfolding numeral
numeral_unfair f a = rw a

pub numeral_undigits : (f : List ℕ) → fair f ≡ true → all_ascii_digits f ≡ false → numeral f ≡ None
unfolding numeral
numeral_undigits f a b = rw (a, b)

pub numeral_is : (f : List ℕ) → fair f ≡ true → all_ascii_digits f ≡ true → Numeral f (read_on 0 f)
numeral_is f a b =
    let s = digits_value_short own f 5 b (grind (arith, nat_tests)) in
    (omega arith, sym (decimal-digits_value own f b (grind (arith, nat_tests)) (λ e. grind (arith, nat_tests)) (omega arith)))

pub decimal_fair : (v : ℕ) → v < 100000 → fair (decimal v) ≡ true
decimal_fair v l =
    let a = length-decimal-le 5 v (omega arith) (omega arith) (omega arith) in
    let b = decimal_nonempty v (omega arith) in
    elim (cases_eq v 0) [
      | inl e ↦ let q = decimal_digit v (omega arith) in let z = ap length q in grind (arith, nat_tests)
      | inr e ↦ let q = first_decimal v (omega arith) (omega arith) in grind (arith, nat_tests)
    ]

pub numeral_some : (f : List ℕ) (v : ℕ) → Numeral f v → numeral f ≡ Some v
numeral_some f v n =
    let l = n.0 in
    rw n.1 (numeral_yes (decimal v) (decimal_fair v l) (digits_decimal own v (omega arith)) ∙ ap (λ (x : ℕ). Some x) (digits_value-decimal own v (omega arith)))

pub numeral_of : (f : List ℕ) (v : ℕ) → numeral f ≡ Some v → Numeral f v
numeral_of f v e =
    elim (cases_Bool (fair f)) [
      | inl a ↦ elim (cases_Bool (all_ascii_digits f)) [
        | inl b ↦ let q = numeral_yes f a b in let h : read_on 0 f ≡ v = cc in subst (Numeral f) h (numeral_is f a b)
        | inr b ↦ let q = numeral_undigits f a b in let z : ◌≡◌ {A = ℕ} 0 1 = cc in absurd (omega arith)
      ]
      | inr a ↦ let q = numeral_unfair f a in let z : ◌≡◌ {A = ℕ} 0 1 = cc in absurd (omega arith)
    ]

pub numeral_never : (f : List ℕ) → numeral f ≡ None → (v : ℕ) → Numeral f v → ⊥
numeral_never f e v n = let q = numeral_some f v n in let z : ◌≡◌ {A = ℕ} 0 1 = cc in omega arith

-- what is told of a field: its numeral, or that it is none
abbrev pub Told : List ℕ → Option ℕ → Type 0
Told f r = (r ≡ numeral f) × MatchOption r ((v : ℕ) → Numeral f v → ⊥) (λ v. Numeral f v)

pub told_unfair : (f : List ℕ) → fair f ≡ false → Told f None
told_unfair f e = (sym (numeral_unfair f e), numeral_never f (numeral_unfair f e))

pub told : (f : List ℕ) (r : Option ℕ) → fair f ≡ true → MatchOption r (all_ascii_digits f ≡ false) (λ v. (all_ascii_digits f ≡ true) × (v ≡ read_on 0 f)) → Told f r
told f None e h = (sym (numeral_undigits f e h), numeral_never f (numeral_undigits f e h))
told f (Some v) e h =
    (sym (numeral_yes f e h.0 ∙ ap (λ (x : ℕ). Some x) (sym h.1)), subst (Numeral f) (sym h.1) (numeral_is f e h.0))
