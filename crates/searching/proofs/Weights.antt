-- The measure of a search over a stack of masks: each mask weighs more than any two smaller ones.
use Rattle.std.proofs.Common.{◌≡◌, ℕ, zero, suc, ◌+◌, ◌<◌, ◌≤◌, refl, ap, ◌∙◌, ⊎_elim, add-one, arith}
use Rattle.std.proofs.lemmas.Bool.{cases_eq}

unfoldable pub weight : ℕ → ℕ
weight zero = 1
weight (suc n) = 1 + weight n + weight n

weight_pos : (n : ℕ) → 0 < weight n
unfolding weight
weight_pos zero = omega arith
weight_pos (suc n) = omega arith

weight_mono : (a b : ℕ) → a ≤ b → weight a ≤ weight b
unfolding weight
weight_mono a zero h = let e : a ≡ 0 = omega arith in rw e (omega arith)
weight_mono a (suc b) h = ⊎_elim (λ (e : a ≡ suc b). rw e (omega arith)) (λ ne. let ih = weight_mono a b (omega arith) in omega arith) (cases_eq a (suc b))

weight_two : (m a b : ℕ) → a < m → b ≤ a → weight a + weight b < weight m
unfolding weight
weight_two zero a b h k = absurd (omega arith)
weight_two (suc m) a b h k = let x = weight_mono a m (omega arith) in let y = weight_mono b m (omega arith) in omega arith

-- what the first n masks weigh
unfoldable pub load : (ℕ → ℕ) → ℕ → ℕ
load f zero = 0
load f (suc n) = load f n + weight (f n)

load_same : (f f' : ℕ → ℕ) (n : ℕ) → ((k : ℕ) → k < n → f' k ≡ f k) → load f' n ≡ load f n
unfolding load
load_same f f' zero h = refl
load_same f f' (suc n) h = let a = load_same f f' n (λ k l. h k (omega arith)) in let b = ap weight (h n (omega arith)) in omega arith

load_more : (f : ℕ → ℕ) (n : ℕ) → load f (n + 1) ≡ load f n + weight (f n)
unfolding load
load_more f n = ap (load f) (add-one n)

-- the mask at the top goes
pub load_popped : (f f' : ℕ → ℕ) (height top : ℕ) → height ≡ top + 1 → ((k : ℕ) → k < top → f' k ≡ f k) → load f' top < load f height
load_popped f f' height top e low =
    let a = load_same f f' top low in
    let b = ap (load f) e ∙ load_more f top in
    let w = weight_pos (f top) in
    omega arith

-- it becomes smaller, and another that is no larger comes to stand on it
pub load_pushed : (f f' : ℕ → ℕ) (height height' top a b : ℕ) → height ≡ top + 1 → height' ≡ top + 1 + 1 → ((k : ℕ) → k < top → f' k ≡ f k) → f' top ≡ a → f' (top + 1) ≡ b → a < f top → b ≤ a → load f' height' < load f height
load_pushed f f' height height' top a b e e' low at next l h =
    let x = load_same f f' top low in
    let y = ap (load f) e ∙ load_more f top in
    let z = ap (load f') e' ∙ load_more f' (top + 1) in
    let u = load_more f' top in
    let v = ap weight at in
    let t = ap weight next in
    let w = weight_two (f top) a b l h in
    omega arith
