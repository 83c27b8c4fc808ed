-- The walk that puts places into classes, as the code does it.
use Rattle.std.proofs.Common.{◌≡◌, ℕ, zero, suc, ◌+◌, ◌^◌, ◌<◌, ◌≤◌, Bool, true, false, not, ◌&&◌, eqb, cond, ltb, List, [], ◌∷◌, ◌++◌, length, get_or, set, MatchOption, Option, Some, None, sym, refl, ap, ◌∙◌, inl, inr, arith}
use lib.Bits.{bit_and, bit_or}
use Rattle.std.specs.List.{position}
use Rattle.std.proofs.lemmas.List.Sums.{prefix_len-le-length}
use Rattle.std.proofs.lemmas.List.{length-set, length_push}
use Rattle.std.proofs.lemmas.Bool.{cases_Bool, cases_eq, eq-eqb, ne_eqb, ltb-true, ltb-false, lt-ltb, and_parts, and_left, and_right}
use Rattle.finite.specs.Finite.{count}
use Rattle.finite.specs.Masks.{bit}
use Rattle.finite.proofs.Counts.{count_le, count_less, count_pos}
use Rattle.finite.proofs.Masks.{bit_none}
use Rattle.grids.specs.Classes.{put, walk, classes, fitting}
use Rattle.grids.proofs.Classes.{put_at, put_new}

pub walk_empty : (rows : List ℕ) (m n : ℕ) (cs : List ℕ) → ((j : ℕ) → j < n → bit m j ≡ false) → walk rows m n cs ≡ cs
unfolding walk
walk_empty rows m zero cs h = refl
walk_empty rows m (suc n) cs h = rw (h n (omega arith)) (walk_empty rows m n cs (λ j l. h j (omega arith)))

pub walk_same : (rows : List ℕ) (m m' n : ℕ) (cs : List ℕ) → ((j : ℕ) → j < n → bit m j ≡ bit m' j) → walk rows m n cs ≡ walk rows m' n cs
unfolding walk
walk_same rows m m' zero cs h = refl
walk_same rows m m' (suc n) cs h =
    let e = h n (omega arith) in
    let ih = walk_same rows m m' n cs (λ j l. h j (omega arith)) in
    rw (e, ih) refl

-- the lowest place goes first
pub walk_lowest : (rows : List ℕ) (m m' i n : ℕ) (cs : List ℕ) → i < n → bit m i ≡ true → ((j : ℕ) → j < i → bit m j ≡ false) → ((j : ℕ) → bit m' j ≡ (bit m j && not (eqb j i))) → walk rows m n cs ≡ walk rows m' n (put (get_or rows i 0) i cs)
unfolding walk
walk_lowest rows m m' i zero cs l t least bits = absurd (omega arith)
walk_lowest rows m m' i (suc n) cs l t least bits =
    elim (cases_eq n i) [
      | inl e ↦ let a : bit m n ≡ true = ap (bit m) e ∙ t in
          let b : bit m' n ≡ false = bits n ∙ and_right (bit m n) (not (eqb n i)) (ap not (eq-eqb n i e)) in
          let x = walk_empty rows m n cs (λ j k. least j (omega arith)) in
          let y = walk_empty rows m' n (put (get_or rows i 0) i cs) (λ j k. bits j ∙ and_left (bit m j) (not (eqb j i)) (least j (omega arith))) in
          rw (a, b, x, y) (ap (λ (v : ℕ). put (get_or rows v 0) v cs) e)
      | inr ne ↦ let b : bit m' n ≡ bit m n = bits n ∙ rw (ne_eqb n i ne) (whole (bit m n)) in
          let ih = walk_lowest rows m m' i n cs (omega arith) t least bits in
          rw (b, ih) refl
    ]
  where
    whole : (x : Bool) → (x && true) ≡ x
    whole x = grind (arith, cases_Bool x)

-- with what is left put in, `made` holds the classes of the goal
pub record Stands (rows : List ℕ) (n : ℕ) (goal made : List ℕ) (rest : ℕ) : Type 0 where
  pub few : length made + count (bit rest) 64 ≤ 64
  pub front : walk rows rest n made ≡ goal
  pub within : (j : ℕ) → bit rest j ≡ true → j < n

pub stands_none : (rows : List ℕ) (m n rest : ℕ) → ((j : ℕ) → bit rest j ≡ (bit m j && ltb j n)) → Stands rows n (classes rows m n) [] rest
stands_none rows m n rest bits =
    record {
      few = omega (arith, count_le (bit rest) 64);
      front = walk_same rows rest m n [] (λ j l. bits j ∙ rw (lt-ltb j n l) (whole (bit m j)));
      within = λ j t. ltb-true j n (and_parts (bit m j) (ltb j n) (sym (bits j) ∙ t)).1;
    }
  where
    whole : (x : Bool) → (x && true) ≡ x
    whole x = grind (arith, cases_Bool x)

pub stands_all : (rows : List ℕ) (n : ℕ) (goal made : List ℕ) (rest : ℕ) → Stands rows n goal made rest → rest ≡ 0 → made ≡ goal
stands_all rows n goal made rest st e =
    sym (walk_empty rows rest n made (λ j l. bit_none rest j e)) ∙ st.front

module _ (rows : List ℕ) (n : ℕ) (goal made : List ℕ) (rest i : ℕ) (st : Stands rows n goal made rest) (small : i < 64) (member : bit rest i ≡ true) where
  pub stands_room : length made < 64
  stands_room = let h = count_pos (bit rest) 64 i small member in omega (arith, st.few)

  module _ (least : (j : ℕ) → j < i → bit rest j ≡ false) (rest' : ℕ) (bits : (j : ℕ) → bit rest' j ≡ (bit rest j && not (eqb j i))) (row : ℕ) (er : row ≡ get_or rows i 0) where
    fewer : count (bit rest) 64 ≡ count (bit rest') 64 + 1
    fewer =
        count_less (bit rest) (bit rest') i 64 small member (bits i ∙ and_right (bit rest i) (not (eqb i i)) (ap not (eq-eqb i i refl))) (λ c ne. sym (bits c ∙ rw (ne_eqb c i ne) (whole (bit rest c))))
      where
        whole : (x : Bool) → (x && true) ≡ x
        whole x = grind (arith, cases_Bool x)

    put_first : walk rows rest' n (put row i made) ≡ goal
    put_first =
        ap (λ (r : ℕ). walk rows rest' n (put r i made)) er ∙ sym (walk_lowest rows rest rest' i n made (st.within i member) member least bits) ∙ st.front

    left : (j : ℕ) → bit rest' j ≡ true → j < n
    left j t = st.within j (and_parts (bit rest j) (not (eqb j i)) (sym (bits j) ∙ t)).0

    -- a class of its own
    pub stands_new : (v : ℕ) → v ≡ 2 ^ i → fitting row made ≡ length made → Stands rows n goal (made ++ v ∷ []) rest'
    stands_new v ev f = record {
      few = omega (arith, st.few, fewer, length_push made v);
      front = ap (λ (x : ℕ). walk rows rest' n (made ++ x ∷ [])) ev ∙ ap (walk rows rest' n) (sym (put_new row i made f)) ∙ put_first;
      within = left;
    }

    -- the lowest class that it fits
    pub stands_at : (c v : ℕ) → v ≡ bit_or (get_or made c 0) (2 ^ i) → c ≡ fitting row made → c < length made → Stands rows n goal (set made c v) rest'
    stands_at c v ev f l =
        let p = put_at row i made (omega arith) in
        record {
          few = rw length-set (omega (arith, st.few, fewer));
          front = rw (ev, f) (ap (walk rows rest' n) (sym p) ∙ put_first);
          within = left;
        }

-- where the first class stands that holds no member of the row
pub first_fit : (row : ℕ) (cs : List ℕ) (r : Option ℕ) → r ≡ position (λ c. eqb (bit_and c row) 0) cs → MatchOption r (fitting row cs ≡ length cs) (λ c. (c ≡ fitting row cs) × (c < length cs))
first_fit row cs r e = rw e (at (ltb (fitting row cs) (length cs)) refl)
  where
    at : (b : Bool) → ltb (fitting row cs) (length cs) ≡ b → MatchOption (cond b (Some (fitting row cs)) None) (fitting row cs ≡ length cs) (λ c. (c ≡ fitting row cs) × (c < length cs))
    at true t = (refl, ltb-true _ _ t)
    at false f = let h = ltb-false (fitting row cs) (length cs) f in let k = prefix_len-le-length (λ c. not (eqb (bit_and c row) 0)) cs in omega arith
