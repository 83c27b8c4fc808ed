-- Two colours change places.
use Rattle.std.proofs.Common.{◌≡◌, ℕ, ◌+◌, ◌<◌, ◌≤◌, Bool, cond, eqb, ◌∙◌, inl, inr, arith}
use Rattle.std.proofs.lemmas.Bool.{cases_lt}
use Rattle.std.proofs.lemmas.Bool.Decides.{nat_tests}
use Rattle.placings.specs.Colours.{Colours, Extends}

pub swapped : ℕ → ℕ → ℕ → ℕ
swapped x y v = cond (eqb v x) y (cond (eqb v y) x v)

pub swapped_first : (x y : ℕ) → swapped x y x ≡ y
unfolding swapped
swapped_first x y = grind (arith, nat_tests)

pub swapped_off : (x y v : ℕ) → (v ≡ x → ⊥) → (v ≡ y → ⊥) → swapped x y v ≡ v
unfolding swapped
swapped_off x y v a b = grind (arith, nat_tests)

pub swapped_one : (x y u v : ℕ) → swapped x y u ≡ swapped x y v → u ≡ v
unfolding swapped
swapped_one x y u v e = grind (arith, nat_tests)

pub swapped_low : (x y v : ℕ) → 1 ≤ x → 1 ≤ y → 1 ≤ v → 1 ≤ swapped x y v
unfolding swapped
swapped_low x y v a b l = grind (arith, nat_tests)

pub swapped_high : (x y v k : ℕ) → x ≤ k → y ≤ k → v ≤ k → swapped x y v ≤ k
unfolding swapped
swapped_high x y v k a b l = grind (arith, nat_tests)

pub colours_swap : (n k x y : ℕ) (E : ℕ → ℕ → Bool) (f : ℕ → ℕ) → 1 ≤ x → x ≤ k → 1 ≤ y → y ≤ k → Colours n E k f → Colours n E k (λ i. swapped x y (f i))
colours_swap n k x y E f xl xh yl yh h =
    record {
      low = λ i l. swapped_low x y (f i) xl yl (h.low i l);
      high = λ i l. swapped_high x y (f i) k xh yh (h.high i l);
      apart = λ i j l m e q. h.apart i j l m e (swapped_one x y (f i) (f j) q);
    }

-- a colour beyond the first new one could change places with that
pub cut : (n : ℕ) (E : ℕ → ℕ → Bool) (k c used : ℕ) (given : ℕ → ℕ) → c < n → ((i : ℕ) → i < n → given i ≤ used) → ((f : ℕ → ℕ) → Colours n E k f → Extends n f given → f c ≤ used + 1 → ⊥) → (f : ℕ → ℕ) → Colours n E k f → Extends n f given → ⊥
cut n E k c used given l capped no-low f h same =
    elim (cases_lt (used + 1) (f c)) [
      | inr m ↦ no-low f h same m
      | inl m ↦ let hi = h.high c l in
          let e = swapped_first (f c) (used + 1) in
          no-low (λ i. swapped (f c) (used + 1) (f i)) (colours_swap n k (f c) (used + 1) E f (omega arith) hi (omega arith) (omega arith) h)
          (λ i o ne. let z = same i o ne in let w = capped i o in swapped_off (f c) (used + 1) (f i) (λ u. omega arith) (λ u. omega arith) ∙ z) (omega arith)
    ]
