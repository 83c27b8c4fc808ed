-- Largest values, and the largest pair that qualifies.
use Rattle.std.proofs.Common.{◌≡◌, ℕ, zero, suc, ◌+◌, ◌<◌, ◌≤◌, max, Bool, true, false, cond, ◌&&◌, leb, sym, refl, ap, ◌∙◌, inl, inr, add-one, arith}
use Rattle.std.proofs.lemmas.Bool.{cases_Bool, cases_eq, cases_lt, le-leb, lt-leb, leb-true, and_parts, and_from, cond-true, cond-false}
use Rattle.finite.specs.Finite.{any}
use Rattle.finite.specs.Masks.{bit}
use Rattle.finite.proofs.Counts.{any_true}
use Rattle.finite.proofs.Splits.{any_from}
use Rattle.grids.specs.Largest.{most, reaches, qualifies, IsLargest, largest, top}

pub most_none : (f : ℕ → ℕ) → most f 0 ≡ 0
unfolding most
most_none f = refl

pub most_more : (f : ℕ → ℕ) (n : ℕ) → most f (n + 1) ≡ max (most f n) (f n)
unfolding most
most_more f n = rw (add-one n) refl

pub most_ge : (f : ℕ → ℕ) (n k : ℕ) → k < n → f k ≤ most f n
unfolding most
most_ge f zero k l = absurd (omega arith)
most_ge f (suc n) k l =
    elim (cases_eq k n) [
      | inl e ↦ let h = ap f e in omega arith
      | inr e ↦ let h = most_ge f n k (omega arith) in omega arith
    ]

pub most_le : (f : ℕ → ℕ) (n b : ℕ) → ((k : ℕ) → k < n → f k ≤ b) → most f n ≤ b
unfolding most
most_le f zero b h = omega arith
most_le f (suc n) b h = let i = most_le f n b (λ k l. h k (omega arith)) in let j = h n (omega arith) in omega arith

-- some place has it
pub most_at : (f : ℕ → ℕ) (n : ℕ) → 0 < n → (k : ℕ) × (k < n) × (f k ≡ most f n)
unfolding most
most_at f zero l = absurd (omega arith)
most_at f (suc zero) l = (0, omega arith, omega arith)
most_at f (suc (suc n)) l =
    let r = most_at f (suc n) (omega arith) in
    elim (cases_lt (f (suc n)) (most f (suc n))) [
      | inl h ↦ (r.0, omega (arith, r.1), omega (arith, r.2))
      | inr h ↦ (suc n, omega arith, omega arith)
    ]

pub most_same : (f g : ℕ → ℕ) (n : ℕ) → ((k : ℕ) → k < n → f k ≡ g k) → most f n ≡ most g n
unfolding most
most_same f g zero h = refl
most_same f g (suc n) h = let i = most_same f g n (λ k l. h k (omega arith)) in let j = h n (omega arith) in omega arith

-- nothing from a on
pub most_gap : (f : ℕ → ℕ) (a n : ℕ) → a ≤ n → ((k : ℕ) → a ≤ k → f k ≡ 0) → most f n ≡ most f a
unfolding most
most_gap f a zero l h = let e : a ≡ 0 = omega arith in ap (most f) (sym e)
most_gap f a (suc n) l h =
    elim (cases_eq a (suc n)) [
      | inl e ↦ ap (most f) (sym e)
      | inr e ↦ let i = most_gap f a n (omega arith) h in let j = h n (omega arith) in omega arith
    ]

-- one member taken out
pub most_without : (f : ℕ → ℕ) (p q : ℕ → Bool) (x n : ℕ) → x < n → p x ≡ true → q x ≡ false → ((c : ℕ) → (c ≡ x → ⊥) → p c ≡ q c) → most (λ i. cond (p i) (f i) 0) n ≡ max (f x) (most (λ i. cond (q i) (f i) 0) n)
unfolding most
most_without f p q x zero l y z h = absurd (omega arith)
most_without f p q x (suc n) l y z h =
    elim (cases_eq n x) [
      | inl e ↦ let a : cond (p n) (f n) 0 ≡ f x = ap (λ (c : ℕ). cond (p c) (f c) 0) e ∙ cond-true (p x) (f x) 0 y in
          let b : cond (q n) (f n) 0 ≡ 0 = ap (λ (c : ℕ). cond (q c) (f c) 0) e ∙ cond-false (q x) (f x) 0 z in
          let s = most_same (λ i. cond (p i) (f i) 0) (λ i. cond (q i) (f i) 0) n (λ c m. ap (λ (v : Bool). cond v (f c) 0) (h c (λ d. omega arith))) in
          omega arith
      | inr e ↦ let i = most_without f p q x n (omega arith) y z h in
          let a : cond (p n) (f n) 0 ≡ cond (q n) (f n) 0 = ap (λ (v : Bool). cond v (f n) 0) (h n e) in
          omega arith
    ]

-- a class with a member contains a degree of s or more exactly when its largest is
pub top_reaches : (degree : ℕ → ℕ) (s class : ℕ) → any (bit class) 64 ≡ true → leb s (top degree class) ≡ reaches degree s class
top_reaches degree s class some =
    elim (cases_lt (top degree class) s) [
      | inl l ↦ lt-leb s (top degree class) l ∙ sym (none l)
      | inr l ↦ le-leb s (top degree class) l ∙ sym (one l)
    ]
  where
    none : top degree class < s → reaches degree s class ≡ false
    none l =
        elim (cases_Bool (reaches degree s class)) [
          | inr y ↦ y
          | inl y ↦ let w = any_true (λ i. bit class i && leb s (degree i)) 64 y in
              let p = and_parts (bit class w.0) (leb s (degree w.0)) w.2 in
              let g = most_ge (λ i. cond (bit class i) (degree i) 0) 64 w.0 w.1 in
              let v = cond-true (bit class w.0) (degree w.0) 0 p.0 in
              let h = leb-true s (degree w.0) p.1 in
              absurd (omega arith)
        ]

    here : (i : ℕ) → i < 64 → bit class i ≡ true → s ≤ degree i → reaches degree s class ≡ true
    here i l t h =
        any_from (λ i. bit class i && leb s (degree i)) 64 i l (and_from (bit class i) (leb s (degree i)) t (le-leb s (degree i) h))

    one : s ≤ top degree class → reaches degree s class ≡ true
    one l =
        let w = most_at (λ i. cond (bit class i) (degree i) 0) 64 (omega arith) in
        elim (cases_Bool (bit class w.0)) [
          | inl y ↦ let v = cond-true (bit class w.0) (degree w.0) 0 y in here w.0 w.1 y (omega (arith, w.2))
          | inr y ↦ let v = cond-false (bit class w.0) (degree w.0) 0 y in
              let x = any_true (bit class) 64 some in here x.0 x.1 x.2 (omega (arith, w.2))
        ]

-- ---- pairs that qualify

pub largest_ge : (u w : ℕ → ℕ) (r s : ℕ) → r < 65 → s < 65 → qualifies u w r s ≡ true → r + s ≤ largest u w
largest_ge u w r s l m y =
    let a = most_ge (λ r. cond (qualifies u w r s) (r + s) 0) 65 r l in
    let b = most_ge (λ s. most (λ r. cond (qualifies u w r s) (r + s) 0) 65) 65 s m in
    let c = cond-true (qualifies u w r s) (r + s) 0 y in
    omega arith

-- nothing in either part always qualifies, and some pair has the largest sum
pub largest_at : (u w : ℕ → ℕ) → (r : ℕ) × (s : ℕ) × (qualifies u w r s ≡ true) × (r + s ≡ largest u w)
largest_at u w =
    let a = most_at (λ s. most (λ r. cond (qualifies u w r s) (r + s) 0) 65) 65 (omega arith) in
    let s = a.0 in
    let b = most_at (λ r. cond (qualifies u w r s) (r + s) 0) 65 (omega arith) in
    let r = b.0 in
    elim (cases_Bool (qualifies u w r s)) [
      | inl y ↦ let c = cond-true (qualifies u w r s) (r + s) 0 y in (r, s, y, omega (arith, a.2, b.2))
      | inr y ↦ let c = cond-false (qualifies u w r s) (r + s) 0 y in (0, 0, and_from (leb 0 (u 0)) (leb 0 (w 0)) (le-leb 0 (u 0) (omega arith)) (le-leb 0 (w 0) (omega arith)), omega (arith, a.2, b.2))
    ]

-- where neither part has more than 64 classes, no pair is left out
pub largest_is : (u w : ℕ → ℕ) → ((s : ℕ) → u s ≤ 64) → ((r : ℕ) → w r ≤ 64) → IsLargest u w (largest u w)
largest_is u w f g =
    record {
      least = λ r s y. let h = and_parts (leb r (u s)) (leb s (w r)) y in
          let a = leb-true r (u s) h.0 in
          let b = leb-true s (w r) h.1 in
          largest_ge u w r s (omega (arith, f s)) (omega (arith, g r)) y;
      reached = largest_at u w;
    }

pub largest_le : (u w : ℕ → ℕ) → largest u w ≤ 128
largest_le u w =
    most_le (λ s. most (λ r. cond (qualifies u w r s) (r + s) 0) 65) 65 128 (λ s l. most_le (λ r. cond (qualifies u w r s) (r + s) 0) 65 128 (λ r m. elim (cases_Bool (qualifies u w r s)) [ inl y ↦ let c = cond-true (qualifies u w r s) (r + s) 0 y in omega arith | inr y ↦ let c = cond-false (qualifies u w r s) (r + s) 0 y in omega arith ]))

pub largest_same : (u w u' w' : ℕ → ℕ) → ((k : ℕ) → u k ≡ u' k) → ((k : ℕ) → w k ≡ w' k) → largest u w ≡ largest u' w'
largest_same u w u' w' f g =
    most_same (λ s. most (λ r. cond (qualifies u w r s) (r + s) 0) 65) (λ s. most (λ r. cond (qualifies u' w' r s) (r + s) 0) 65) 65 (λ s l. most_same (λ r. cond (qualifies u w r s) (r + s) 0) (λ r. cond (qualifies u' w' r s) (r + s) 0) 65 (λ r m. rw (f s, g r) refl))
