-- Laws of `bit`: a mask as the set of its places.
use Rattle.std.proofs.Common.{◌≡◌, ℕ, zero, suc, ◌+◌, ◌-◌, ◌*◌, ◌/◌, ◌%◌, ◌^◌, ◌<◌, ◌≤◌, min, max, Bool, true, false, cond, not, ◌&&◌, ◌||◌, eqb, ltb, sym, refl, ap, ◌∙◌, inl, inr, ⊎_elim, pow-suc, arith, pow_mono}
use lib.Bits.{bit_and, bit_or, bit_xor, and_shr, or_shr, xor_shr, and_step, or_step, xor_add_and, and_le_l, and_mask}
use lib.Count.{ones, ones_step, ones-le, count_trailing_zeros, under}
use Rattle.std.proofs.lemmas.Nat.{shr-shr, shr_below, pow_pos, pow_below, one_shl, or_lt}
use Rattle.std.proofs.lemmas.Bool.{cases_Bool, cases_eq, cases_lt, eq-eqb, ne_eqb, eqb-true, eqb-false, lt-ltb, le-ltb, both_ways}
use Rattle.std.proofs.lemmas.Bool.Decides.{nat_tests}
use Rattle.finite.specs.Masks.{bit, mask}
use Rattle.finite.specs.Finite.{any, count}
use Rattle.finite.proofs.Counts.{any_true, any_false, count_same}
use Rattle.finite.proofs.Splits.{count_front}

pub bit_low : (m : ℕ) → bit m 0 ≡ eqb (m % 2) 1
unfolding bit
bit_low m = let e : m / 1 ≡ m = omega arith in ap (λ (x : ℕ). eqb (x % 2) 1) e

pub bit_up : (m i : ℕ) → bit m (suc i) ≡ bit (m / 2) i
unfolding bit
bit_up m i =
    let e : 1 + i ≡ suc i = omega arith in
    let f : m / 2 / 2 ^ i ≡ m / 2 ^ suc i = shr-shr m 1 i ∙ ap (λ (x : ℕ). m / 2 ^ x) e in
    ap (λ (x : ℕ). eqb (x % 2) 1) (sym f)

min_test : (u v : ℕ) → u < 2 → v < 2 → eqb (min u v) 1 ≡ (eqb u 1 && eqb v 1)
min_test u v a b = grind (arith, nat_tests)

max_test : (u v : ℕ) → u < 2 → v < 2 → eqb (max u v) 1 ≡ (eqb u 1 || eqb v 1)
max_test u v a b = grind (arith, nat_tests)

pub bit-bit_and : (a b i : ℕ) → bit (bit_and a b) i ≡ (bit a i && bit b i)
unfolding bit
bit-bit_and a b i =
    let x : ℕ = a / 2 ^ i in
    let y : ℕ = b / 2 ^ i in
    let s = and_step x y in
    let e : bit_and x y % 2 ≡ min (x % 2) (y % 2) = omega arith in
    ap (λ (z : ℕ). eqb (z % 2) 1) (and_shr a b i) ∙ ap (λ (z : ℕ). eqb z 1) e ∙ min_test (x % 2) (y % 2) (omega arith) (omega arith)

pub bit-bit_or : (a b i : ℕ) → bit (bit_or a b) i ≡ (bit a i || bit b i)
unfolding bit
bit-bit_or a b i =
    let x : ℕ = a / 2 ^ i in
    let y : ℕ = b / 2 ^ i in
    let s = or_step x y in
    let e : bit_or x y % 2 ≡ max (x % 2) (y % 2) = omega arith in
    ap (λ (z : ℕ). eqb (z % 2) 1) (or_shr a b i) ∙ ap (λ (z : ℕ). eqb z 1) e ∙ max_test (x % 2) (y % 2) (omega arith) (omega arith)

xor_test : (u v : ℕ) → u < 2 → v < 2 → eqb ((u + v) % 2) 1 ≡ cond (eqb v 1) (not (eqb u 1)) (eqb u 1)
xor_test u v a b = grind (arith, nat_tests)

pub bit-bit_xor : (a b i : ℕ) → bit (bit_xor a b) i ≡ cond (bit b i) (not (bit a i)) (bit a i)
unfolding bit
bit-bit_xor a b i =
    let x : ℕ = a / 2 ^ i in
    let y : ℕ = b / 2 ^ i in
    let s = xor_add_and x y in
    let e : bit_xor x y % 2 ≡ (x % 2 + y % 2) % 2 = omega arith in
    ap (λ (z : ℕ). eqb (z % 2) 1) (xor_shr a b i) ∙ ap (λ (z : ℕ). eqb z 1) e ∙ xor_test (x % 2) (y % 2) (omega arith) (omega arith)

pub bit_zero : (i : ℕ) → bit 0 i ≡ false
bit_zero zero = bit_low 0
bit_zero (suc i) = bit_up 0 i ∙ bit_zero i

pub bit_power : (k i : ℕ) → bit (2 ^ k) i ≡ eqb i k
bit_power zero zero = bit_low 1
bit_power zero (suc i) = bit_up 1 i ∙ bit_zero i ∙ sym (ne_eqb (suc i) 0 (λ e. omega arith))
bit_power (suc k) zero =
    let p = pow-suc 2 k in
    let e : 2 ^ suc k % 2 ≡ 0 = omega arith in
    bit_low (2 ^ suc k) ∙ ap (λ (x : ℕ). eqb x 1) e ∙ sym (ne_eqb 0 (suc k) (λ d. omega arith))
bit_power (suc k) (suc i) =
    let p = pow-suc 2 k in
    let e : 2 ^ suc k / 2 ≡ 2 ^ k = omega arith in
    bit_up (2 ^ suc k) i ∙ ap (λ (x : ℕ). bit x i) e ∙ bit_power k i ∙ grind (arith, nat_tests)

-- the mask of the places below n
pub bit_below : (n i : ℕ) → bit (2 ^ n - 1) i ≡ ltb i n
bit_below zero i = bit_zero i ∙ sym (le-ltb i 0 (omega arith))
bit_below (suc n) zero =
    let p = pow-suc 2 n in
    let q = pow_pos n in
    let e : (2 ^ suc n - 1) % 2 ≡ 1 = omega arith in
    bit_low (2 ^ suc n - 1) ∙ ap (λ (x : ℕ). eqb x 1) e ∙ sym (lt-ltb 0 (suc n) (omega arith))
bit_below (suc n) (suc i) =
    let p = pow-suc 2 n in
    let q = pow_pos n in
    let e : (2 ^ suc n - 1) / 2 ≡ 2 ^ n - 1 = omega arith in
    bit_up (2 ^ suc n - 1) i ∙ ap (λ (x : ℕ). bit x i) e ∙ bit_below n i ∙ grind (arith, nat_tests)

half_below : (m k : ℕ) → m < 2 ^ suc k → m / 2 < 2 ^ k
half_below m k h = let p = pow-suc 2 k in omega arith

-- a mask of k places has no member at k or beyond
pub bit_within : (k m i : ℕ) → m < 2 ^ k → bit m i ≡ true → i < k
unfolding bit
bit_within k m i h t = ⊎_elim (λ l. l) (λ l. absurd (no_bit l)) (cases_lt i k)
  where
    no_bit : k ≤ i → ⊥
    no_bit l =
        let g = pow_mono l in
        let o : 0 + i ≡ i = omega arith in
        let z = shr_below m 0 i (rw o (omega arith)) in
        let e : m / 2 ^ i % 2 ≡ 0 = omega arith in
        eqb-false 0 1 refl (eqb-true _ _ (rw e at t))

-- a mask that is not 0 has a member: its lowest one
pub bit_lowest : (k m : ℕ) → 0 < m → m < 2 ^ k → (count_trailing_zeros k m < k) × (bit m (count_trailing_zeros k m) ≡ true)
unfolding count_trailing_zeros
bit_lowest zero m a b = absurd (omega arith)
bit_lowest (suc k) m a b = go (m % 2) refl (λ c. bit_lowest k (m / 2) c (half_below m k b))
  where
    go : (r : ℕ) → m % 2 ≡ r → (0 < m / 2 → (count_trailing_zeros k (m / 2) < k) × (bit (m / 2) (count_trailing_zeros k (m / 2)) ≡ true)) → (count_trailing_zeros (suc k) m < suc k) × (bit m (count_trailing_zeros (suc k) m) ≡ true)
    go zero e ih = let h = ih (omega arith) in rw e (omega (arith, h.0), bit_up m (count_trailing_zeros k (m / 2)) ∙ h.1)
    go (suc r) e ih = rw e (omega arith, bit_low m ∙ ap (λ (x : ℕ). eqb x 1) (let f : m % 2 ≡ 1 = omega arith in f))

-- `count_ones` counts the members
pub ones_count : (k m : ℕ) → m < 2 ^ k → ones m ≡ count (bit m) k
unfolding count
ones_count zero m h = let l = ones-le 0 m h in omega arith
ones_count (suc k) m h =
    let ih = ones_count k (m / 2) (half_below m k h) in
    let up = count_same (λ i. bit m (suc i)) (bit (m / 2)) k (λ i _. bit_up m i) in
    let low : cond (bit m 0) 1 0 ≡ m % 2 = rw bit_low (grind (arith, nat_tests)) in
    let f = count_front (bit m) k in
    let s = ones_step m in
    omega arith

-- masks with the same members are the same number
pub bit_ext : (k a b : ℕ) → a < 2 ^ k → b < 2 ^ k → ((i : ℕ) → bit a i ≡ bit b i) → a ≡ b
bit_ext zero a b l m h = omega arith
bit_ext (suc k) a b l m h =
    let ih = bit_ext k (a / 2) (b / 2) (half_below a k l) (half_below b k m) (λ i. sym (bit_up a i) ∙ h (suc i) ∙ bit_up b i) in
    let low : eqb (a % 2) 1 ≡ eqb (b % 2) 1 = sym (bit_low a) ∙ h 0 ∙ bit_low b in
    let e : a % 2 ≡ b % 2 = same_test (a % 2) (b % 2) (omega arith) (omega arith) low in
    omega arith
  where
    same_test : (u v : ℕ) → u < 2 → v < 2 → eqb u 1 ≡ eqb v 1 → u ≡ v
    same_test u v x y e = grind (arith, nat_tests)

-- two masks share a place exactly when what they have in common is not 0
pub meet_none : (k a b : ℕ) → bit_and a b ≡ 0 → any (λ j. bit a j && bit b j) k ≡ false
meet_none k a b e =
    elim (cases_Bool (any (λ j. bit a j && bit b j) k)) [
      | inr y ↦ y
      | inl y ↦ let r = any_true (λ j. bit a j && bit b j) k y in
          absurd (both_ways (bit 0 r.0) (bit_zero r.0) (ap (λ (m : ℕ). bit m r.0) (sym e) ∙ bit-bit_and a b r.0 ∙ r.2))
    ]

pub meet_some : (k a b : ℕ) → a < 2 ^ k → 0 < bit_and a b → any (λ j. bit a j && bit b j) k ≡ true
meet_some k a b l h =
    elim (cases_Bool (any (λ j. bit a j && bit b j) k)) [
      | inl y ↦ y
      | inr y ↦ let w = bit_lowest k (bit_and a b) h (omega (arith, and_le_l a b)) in
          let t = count_trailing_zeros k (bit_and a b) in
          absurd (both_ways (bit a t && bit b t) (any_false (λ j. bit a j && bit b j) k y t w.0) (sym (bit-bit_and a b t) ∙ w.1))
    ]

pub meet_both : (a b j : ℕ) → (bit a j && bit b j) ≡ (bit b j && bit a j)
meet_both a b j = grind (arith, cases_Bool (bit a j), cases_Bool (bit b j))

-- the machine's forms
pub one_at : (i : ℕ) → i < 64 → (1 * 2 ^ i) % 2 ^ 64 ≡ 2 ^ i
one_at i h = one_shl i 64 h

pub bit_test : (m i : ℕ) → eqb (bit_and (m / 2 ^ i) 1) 1 ≡ bit m i
unfolding bit
bit_test m i = ap (λ (x : ℕ). eqb x 1) (and_mask (m / 2 ^ i) 1)

pub bit_with : (m i j : ℕ) → bit (bit_or m (2 ^ i)) j ≡ (bit m j || eqb j i)
bit_with m i j = bit-bit_or m (2 ^ i) j ∙ ap (λ b. bit m j || b) (bit_power i j)

pub bit_without : (m i : ℕ) → bit m i ≡ true → (j : ℕ) → bit (bit_xor m (2 ^ i)) j ≡ (bit m j && not (eqb j i))
bit_without m i t j = bit-bit_xor m (2 ^ i) j ∙ ap (λ b. cond b (not (bit m j)) (bit m j)) (bit_power i j) ∙ ⊎_elim at off (cases_eq j i)
  where
    at : j ≡ i → cond (eqb j i) (not (bit m j)) (bit m j) ≡ (bit m j && not (eqb j i))
    at e = let s : bit m j ≡ true = ap (bit m) e ∙ t in rw (eq-eqb j i e, s)

    off : (j ≡ i → ⊥) → cond (eqb j i) (not (bit m j)) (bit m j) ≡ (bit m j && not (eqb j i))
    off ne = rw (ne_eqb j i ne) (grind (arith, cases_Bool (bit m j)))

-- taking a member out makes the number smaller
pub without_less : (k m i : ℕ) → i < k → m < 2 ^ k → bit m i ≡ true → bit_xor m (2 ^ i) < m
without_less k m i l f t =
    let pl = pow_below i k l in
    let al = and_le_l m (2 ^ i) in
    let same : bit_and m (2 ^ i) ≡ 2 ^ i = bit_ext k (bit_and m (2 ^ i)) (2 ^ i) (omega arith) pl (λ j. bit-bit_and m (2 ^ i) j ∙ ap (λ b. bit m j && b) (bit_power i j) ∙ ⊎_elim (at j) (off j) (cases_eq j i) ∙ sym (bit_power i j)) in
    let s = xor_add_and m (2 ^ i) in
    let p = pow_pos i in
    omega arith
  where
    at : (j : ℕ) → j ≡ i → (bit m j && eqb j i) ≡ eqb j i
    at j e = let s : bit m j ≡ true = ap (bit m) e ∙ t in rw s

    off : (j : ℕ) → (j ≡ i → ⊥) → (bit m j && eqb j i) ≡ eqb j i
    off j ne = rw (ne_eqb j i ne) (grind (arith, cases_Bool (bit m j)))

-- no member is below the lowest
pub lowest_least : (k m i : ℕ) → i < count_trailing_zeros k m → bit m i ≡ false
unfolding count_trailing_zeros
lowest_least zero m i h = absurd (omega arith)
lowest_least (suc k) m i h = go (m % 2) refl i h (λ j. lowest_least k (m / 2) j)
  where
    go : (r : ℕ) → m % 2 ≡ r → (i : ℕ) → i < under r (count_trailing_zeros k (m / 2)) → ((j : ℕ) → j < count_trailing_zeros k (m / 2) → bit (m / 2) j ≡ false) → bit m i ≡ false
    go zero e zero l ih = bit_low m ∙ ap (λ (x : ℕ). eqb x 1) e
    go zero e (suc i) l ih = bit_up m i ∙ ih i (omega arith)
    go (suc r) e i l ih = absurd (omega arith)

-- the members of the first that are not in the second
pub bit_minus : (a b j : ℕ) → bit (bit_xor a (bit_and a b)) j ≡ (bit a j && not (bit b j))
bit_minus a b j =
    bit-bit_xor a (bit_and a b) j ∙ ap (λ (v : Bool). cond v (not (bit a j)) (bit a j)) (bit-bit_and a b j) ∙ grind (arith, cases_Bool (bit a j), cases_Bool (bit b j))

-- a mask with no member is 0
pub bit_none : (m j : ℕ) → m ≡ 0 → bit m j ≡ false
bit_none m j e = ap (λ (x : ℕ). bit x j) e ∙ bit_zero j

-- the mask of a set
pub mask_lt : (t : ℕ → Bool) (n : ℕ) → mask t n < 2 ^ n
unfolding mask
mask_lt t zero = omega arith
mask_lt t (suc n) =
    let h = mask_lt t n in
    let p = pow-suc 2 n in
    let q = pow_below n (suc n) (omega arith) in
    elim (cases_Bool (t n)) [
      | inl y ↦ rw y (or_lt (suc n) (mask t n) (2 ^ n) (omega arith) q)
      | inr y ↦ rw y (omega arith)
    ]

pub bit_mask : (t : ℕ → Bool) (n j : ℕ) → bit (mask t n) j ≡ (ltb j n && t j)
unfolding mask
bit_mask t zero j = bit_zero j ∙ sym (rw (le-ltb j 0 (omega arith)) refl)
bit_mask t (suc n) j =
    let h = bit_mask t n j in
    elim (cases_Bool (t n)) [
      | inl y ↦ rw (y, bit_with, h) (elim (cases_eq j n) [ inl e ↦ rw (e, y) (grind (arith, nat_tests)) | inr e ↦ grind (arith, nat_tests) ])
      | inr y ↦ rw (y, h) (elim (cases_eq j n) [ inl e ↦ rw (e, y) (grind (arith, nat_tests)) | inr e ↦ grind (arith, nat_tests) ])
    ]

-- a number whose members are those of the set is its mask
pub mask_is : (k r : ℕ) (t : ℕ → Bool) → r < 2 ^ k → ((j : ℕ) → bit r j ≡ t j) → r ≡ mask t k
mask_is k r t l h =
    bit_ext k r (mask t k) l (mask_lt t k) (λ j. elim (cases_lt j k) [
      | inl m ↦ h j ∙ sym (bit_mask t k j ∙ rw (lt-ltb j k m) refl)
      | inr m ↦ elim (cases_Bool (bit r j)) [
        | inl y ↦ let z = bit_within k r j l y in absurd (omega arith)
        | inr y ↦ y ∙ sym (bit_mask t k j ∙ rw (le-ltb j k m) refl)
      ]
    ])
