-- The walk of the class bound is sound: each class holds at most one member of a clique.
use Rattle.std.proofs.Common.{◌≡◌, ℕ, zero, suc, ◌^◌, ◌<◌, ◌≤◌, Bool, true, false, cond, not, ◌&&◌, ◌||◌, eqb, List, [], ◌∷◌, ◌++◌, length, get_or, set, sym, refl, ap, ◌∙◌, ⊎_elim, one-add, arith}
use lib.Bits.{bit_and, bit_or}
use Rattle.std.specs.List.{AllByRecursion as All}
use Rattle.std.proofs.ByRecursion.{All-get_or}
use Rattle.std.proofs.lemmas.Bool.{cases_Bool, cases_eq, eqb-true, eq-eqb, and_parts, or_cases, or_right, both_ways, not-true}
use Rattle.finite.specs.Finite.{any, count}
use Rattle.finite.specs.Masks.{bit}
use Rattle.finite.proofs.Counts.{count_empty, count_le}
use Rattle.finite.proofs.Splits.{count_one, count_split, count_front, any_from}
use Rattle.finite.proofs.Masks.{bit-bit_and, bit_zero, bit_power, bit_with}
use Rattle.grids.specs.Grid.{linked, Even, Loopless}
use Rattle.grids.specs.Classes.{put, walk, classes, fitting}

-- ---- `put` as the code does it

pub put_at : (row i : ℕ) (cs : List ℕ) → fitting row cs < length cs → put row i cs ≡ set cs (fitting row cs) (bit_or (get_or cs (fitting row cs) 0) (2 ^ i))
unfolding put
put_at row i [] h = absurd (omega arith)
put_at row i (c ∷ cs) h = go (eqb (bit_and c row) 0) refl (put_at row i cs)
  where
    go : (b : Bool) → eqb (bit_and c row) 0 ≡ b → (fitting row cs < length cs → put row i cs ≡ set cs (fitting row cs) (bit_or (get_or cs (fitting row cs) 0) (2 ^ i))) → put row i (c ∷ cs) ≡ set (c ∷ cs) (fitting row (c ∷ cs)) (bit_or (get_or (c ∷ cs) (fitting row (c ∷ cs)) 0) (2 ^ i))
    go true e ih = rw e
    go false e ih = rw (e, one-add) (ap (λ (r : List ℕ). c ∷ r) (ih (let z = rw e at h in omega arith)))

pub put_new : (row i : ℕ) (cs : List ℕ) → fitting row cs ≡ length cs → put row i cs ≡ cs ++ 2 ^ i ∷ []
unfolding put
put_new row i [] h = refl
put_new row i (c ∷ cs) h = go (eqb (bit_and c row) 0) refl (put_new row i cs)
  where
    go : (b : Bool) → eqb (bit_and c row) 0 ≡ b → (fitting row cs ≡ length cs → put row i cs ≡ cs ++ 2 ^ i ∷ []) → put row i (c ∷ cs) ≡ (c ∷ cs) ++ 2 ^ i ∷ []
    go true e ih = absurd (let z = rw e at h in omega arith)
    go false e ih = rw e (ap (λ (r : List ℕ). c ∷ r) (ih (let z = rw e at h in omega arith)))

-- ---- no two members of a class are neighbours

abbrev Apart : List ℕ → ℕ → Type 0
Apart rows c = (i j : ℕ) → bit c i ≡ true → bit c j ≡ true → linked rows i j ≡ false

module _ (rows : List ℕ) (even : Even rows) (loopless : Loopless rows) where
  apart_alone : (i : ℕ) → Apart rows (2 ^ i)
  apart_alone i a b x y =
      let ea : a ≡ i = eqb-true a i (sym (bit_power i a) ∙ x) in
      let eb : b ≡ i = eqb-true b i (sym (bit_power i b) ∙ y) in
      rw (ea, eb) (loopless i)

  apart_with : (i c : ℕ) → bit_and c (get_or rows i 0) ≡ 0 → Apart rows c → Apart rows (bit_or c (2 ^ i))
  apart_with i c z ap' a b x y =
      let free : (k : ℕ) → bit c k ≡ true → linked rows i k ≡ false = λ k t.
      let q : (bit c k && linked rows i k) ≡ false = sym (bit-bit_and c (get_or rows i 0) k) ∙ ap (λ (v : ℕ). bit v k) z ∙ bit_zero k in
      grind (arith, cases_Bool (linked rows i k)) in
      ⊎_elim
      (λ xa. ⊎_elim (λ yb. ap' a b xa yb) (λ yb. let e = eqb-true b i yb in rw e (even a i ∙ free a xa)) (or_cases _ _ (sym (bit_with c i b) ∙ y)))
      (λ xa. let d = eqb-true a i xa in rw d (⊎_elim (λ yb. free b yb) (λ yb. let e = eqb-true b i yb in rw e (loopless i)) (or_cases _ _ (sym (bit_with c i b) ∙ y))))
      (or_cases _ _ (sym (bit_with c i a) ∙ x))

  put_apart : (i : ℕ) (cs : List ℕ) → All (Apart rows) cs → All (Apart rows) (put (get_or rows i 0) i cs)
  unfolding put
  put_apart i [] h = (apart_alone i, tt)
  put_apart i (c ∷ cs) h = go (eqb (bit_and c (get_or rows i 0)) 0) refl (put_apart i cs h.1)
    where
      go : (b : Bool) → eqb (bit_and c (get_or rows i 0)) 0 ≡ b → All (Apart rows) (put (get_or rows i 0) i cs) → All (Apart rows) (put (get_or rows i 0) i (c ∷ cs))
      go true e ih = rw e (apart_with i c (eqb-true _ _ e) h.0, h.1)
      go false e ih = rw e (h.0, ih)

  classes_apart : (m n : ℕ) → All (Apart rows) (classes rows m n)
  unfolding walk
  classes_apart m zero = tt
  classes_apart m (suc n) = go (bit m n) (classes_apart m n)
    where
      go : (b : Bool) → All (Apart rows) (classes rows m n) → All (Apart rows) (cond b (put (get_or rows n 0) n (classes rows m n)) (classes rows m n))
      go true ih = put_apart n (classes rows m n) ih
      go false ih = ih

-- ---- the classes hold each place of the mask

abbrev union : List ℕ → ℕ → Bool
union [] j = false
union (c ∷ cs) j = bit c j || union cs j

union_put : (row i : ℕ) (cs : List ℕ) (j : ℕ) → union (put row i cs) j ≡ (union cs j || eqb j i)
unfolding put
union_put row i [] j = ap (λ b. b || false) (bit_power i j) ∙ grind (arith, cases_Bool (eqb j i))
union_put row i (c ∷ cs) j = go (eqb (bit_and c row) 0) (union_put row i cs j)
  where
    go : (b : Bool) → union (put row i cs) j ≡ (union cs j || eqb j i) → union (cond b (bit_or c (2 ^ i) ∷ cs) (c ∷ put row i cs)) j ≡ (bit c j || union cs j || eqb j i)
    go true ih = ap (λ b. b || union cs j) (bit_with c i j) ∙ grind (arith, cases_Bool (bit c j), cases_Bool (union cs j), cases_Bool (eqb j i))
    go false ih = ap (λ b. bit c j || b) ih ∙ grind (arith, cases_Bool (bit c j), cases_Bool (union cs j), cases_Bool (eqb j i))

classes_hold : (rows : List ℕ) (m n j : ℕ) → j < n → bit m j ≡ true → union (classes rows m n) j ≡ true
unfolding walk
classes_hold rows m zero j h t = absurd (omega arith)
classes_hold rows m (suc n) j h t = go (bit m n) refl (λ l. classes_hold rows m n j l t)
  where
    go : (b : Bool) → bit m n ≡ b → (j < n → union (classes rows m n) j ≡ true) → union (cond b (put (get_or rows n 0) n (classes rows m n)) (classes rows m n)) j ≡ true
    go true e ih = union_put (get_or rows n 0) n (classes rows m n) j ∙ ⊎_elim (λ d. rw (eq-eqb j n d) (grind (arith, cases_Bool (union (classes rows m n) j)))) (λ d. rw (ih (omega arith)) refl) (cases_eq j n)
    go false e ih = ih (⊎_elim (λ d. absurd (both_ways (bit m n) e (ap (bit m) (sym d) ∙ t))) (λ d. omega arith) (cases_eq j n))

-- ---- a clique that the classes hold has at most one member in each, and none in a class that fails the test

pub cover : (rows cs : List ℕ) (K t : ℕ → Bool) → All (Apart rows) cs → ((i j : ℕ) → K i ≡ true → K j ≡ true → (i ≡ j → ⊥) → linked rows i j ≡ true) → ((i : ℕ) → K i ≡ true → union cs i ≡ true) → ((k i : ℕ) → k < length cs → K i ≡ true → bit (get_or cs k 0) i ≡ true → t (get_or cs k 0) ≡ true) → count K 64 ≤ count (λ k. t (get_or cs k 0)) (length cs)
cover rows [] K t a k u e =
    let z = count_empty K 64 (λ i _. ⊎_elim (λ y. absurd (both_ways false refl (u i y))) (λ f. f) (cases_Bool (K i))) in
    omega arith
cover rows (c ∷ cs) K t a k u e =
    let one = count_one (λ i. K i && bit c i) 64 (λ i j _ _ x y.
    let xs = and_parts _ _ x in
    let ys = and_parts _ _ y in
    ⊎_elim (λ e. e) (λ ne. absurd (both_ways _ (a.0 i j xs.1 ys.1) (k i j xs.0 ys.0 ne))) (cases_eq i j)) in
    let rest = cover rows cs (λ i. K i && not (bit c i)) t a.1
    (λ i j x y. k i j (and_parts _ _ x).0 (and_parts _ _ y).0)
    (λ i x. let p = and_parts _ _ x in let q = u i p.0 in let r = not-true _ p.1 in grind (arith, cases_Bool (union cs i)))
    (λ j i l x b. e (suc j) i (omega arith) (and_parts _ _ x).0 b) in
    let s = count_split K (bit c) 64 in
    let f = count_front (λ j. t (get_or (c ∷ cs) j 0)) (length cs) in
    ⊎_elim
    (λ y. let v : ◌≡◌ {A = ℕ} (cond (t c) 1 0) 1 = rw y refl in omega arith)
    (λ y. let none = count_empty (λ i. K i && bit c i) 64 (λ i _. ⊎_elim (λ x. let p = and_parts _ _ x in absurd (both_ways (t c) y (e 0 i (omega arith) p.0 p.1))) (λ x. x) (cases_Bool (K i && bit c i))) in omega arith)
    (cases_Bool (t c))

module _ (rows : List ℕ) (even : Even rows) (loopless : Loopless rows) (m n : ℕ) (K : ℕ → Bool) (below : (i : ℕ) → K i ≡ true → i < n) (inside : (i : ℕ) → K i ≡ true → bit m i ≡ true) (links : (i j : ℕ) → K i ≡ true → K j ≡ true → (i ≡ j → ⊥) → linked rows i j ≡ true) where
  pub classes_cover : (t : ℕ → Bool) → ((k i : ℕ) → k < length (classes rows m n) → K i ≡ true → bit (get_or (classes rows m n) k 0) i ≡ true → t (get_or (classes rows m n) k 0) ≡ true) → count K 64 ≤ count (λ k. t (get_or (classes rows m n) k 0)) (length (classes rows m n))
  classes_cover t each =
      cover rows (classes rows m n) K t (classes_apart rows even loopless m n) links (λ i x. classes_hold rows m n i (below i x) (inside i x)) each

  pub classes_sound : count K 64 ≤ length (classes rows m n)
  classes_sound =
      let h = classes_cover (λ c. true) (λ k i l x b. refl) in
      let l = count_le (λ k. true) (length (classes rows m n)) in
      omega arith

-- ---- each class has a member

abbrev Full : ℕ → Type 0
Full c = any (bit c) 64 ≡ true

put_full : (row i : ℕ) (cs : List ℕ) → i < 64 → All Full cs → All Full (put row i cs)
unfolding put
put_full row i [] l h = (any_from (bit (2 ^ i)) 64 i l (bit_power i i ∙ eq-eqb i i refl), tt)
put_full row i (c ∷ cs) l h = go (eqb (bit_and c row) 0) (put_full row i cs l h.1)
  where
    go : (b : Bool) → All Full (put row i cs) → All Full (cond b (bit_or c (2 ^ i) ∷ cs) (c ∷ put row i cs))
    go true ih = (any_from (bit (bit_or c (2 ^ i))) 64 i l (bit_with c i i ∙ or_right (bit c i) (eqb i i) (eq-eqb i i refl)), h.1)
    go false ih = (h.0, ih)

classes_full : (rows : List ℕ) (m n : ℕ) → n ≤ 64 → All Full (classes rows m n)
unfolding walk
classes_full rows m zero l = tt
classes_full rows m (suc n) l = go (bit m n) (classes_full rows m n (omega arith))
  where
    go : (b : Bool) → All Full (classes rows m n) → All Full (cond b (put (get_or rows n 0) n (classes rows m n)) (classes rows m n))
    go true ih = put_full (get_or rows n 0) n (classes rows m n) (omega arith) ih
    go false ih = ih

pub classes_some : (rows : List ℕ) (m n k : ℕ) → n ≤ 64 → k < length (classes rows m n) → any (bit (get_or (classes rows m n) k 0)) 64 ≡ true
classes_some rows m n k l h = All-get_or Full (classes rows m n) k 0 h (classes_full rows m n l)

-- ---- there are at most as many classes as places

put_few : (row i : ℕ) (cs : List ℕ) → length (put row i cs) ≤ suc (length cs)
unfolding put
put_few row i [] = omega arith
put_few row i (c ∷ cs) = go (eqb (bit_and c row) 0) (put_few row i cs)
  where
    go : (b : Bool) → length (put row i cs) ≤ suc (length cs) → length (cond b (bit_or c (2 ^ i) ∷ cs) (c ∷ put row i cs)) ≤ suc (suc (length cs))
    go true ih = omega arith
    go false ih = omega arith

pub classes_few : (rows : List ℕ) (m n : ℕ) → length (classes rows m n) ≤ n
unfolding walk
classes_few rows m zero = omega arith
classes_few rows m (suc n) = go (bit m n) (classes_few rows m n)
  where
    go : (b : Bool) → length (classes rows m n) ≤ n → length (cond b (put (get_or rows n 0) n (classes rows m n)) (classes rows m n)) ≤ suc n
    go true ih = let h = put_few (get_or rows n 0) n (classes rows m n) in omega arith
    go false ih = omega arith
