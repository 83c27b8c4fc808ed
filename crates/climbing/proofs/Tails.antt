-- The last vertices of a list, searched at once, and a block that is written from a table of its members.
use Rattle.std.proofs.Common.{◌≡◌, ℕ, zero, suc, ◌+◌, ◌-◌, ◌^◌, ◌<◌, ◌≤◌, Bool, true, false, cond, ◌&&◌, ◌||◌, eqb, ltb, List, [], ◌∷◌, ◌++◌, length, get_or, take, drop, sym, refl, ap, ◌∙◌, subst, inl, inr, arith, length-drop}
use Rattle.std.proofs.lemmas.List.{length_push, get_or-drop}
use Rattle.std.proofs.lemmas.Bool.{cases_Bool}
use Rattle.finite.specs.Finite.{any, count, has, members}
use Rattle.finite.specs.Masks.{bit}
use Rattle.finite.proofs.Counts.{any_none, any_more, count_same, has_true}
use Rattle.finite.proofs.Masks.{bit_below}
use Rattle.finite.proofs.Members.{count_rise}
use Rattle.graph.specs.Graph.{Graph, held, clash}
use Rattle.pictures.specs.Pictures.{Draws, places}
use Rattle.pictures.specs.declared.shape.Picture.{Picture}
use Rattle.searching.specs.Answers.{Largest}
use Rattle.searching.specs.Climbed.{Climbed}
use Rattle.searching.proofs.Climbs.{climbed_all}
use Rattle.climbing.specs.Climbs.{LargestAmong, EachOnce, BlockIn, FewLater, backward, last, picked, plus}
use Rattle.climbing.proofs.Steps.{largest_same}
use Rattle.climbing.proofs.Later.{Apart, backward_none, backward_yes, backward_no, has_backward, apart_backward, apart_drop}
use Rattle.climbing.proofs.Drawn.{picked_few, largest_drawn}
use Rattle.climbing.proofs.Blocks.{block_few}

-- ---- a table of members

-- the vertices at the first i places of the mask
abbrev pub first_picked : List ℕ → ℕ → ℕ → ℕ → Bool
first_picked q k i c = any (λ j. bit k j && eqb (get_or q j 0) c) i

pub table_none : (q : List ℕ) (k c : ℕ) → false ≡ first_picked q k 0 c
table_none q k c = sym (any_none (λ j. bit k j && eqb (get_or q j 0) c))

pub table_yes : (q : List ℕ) (k i c : ℕ) → bit k i ≡ true → (eqb (get_or q i 0) c || first_picked q k i c) ≡ first_picked q k (i + 1) c
table_yes q k i c y =
    sym (any_more (λ j. bit k j && eqb (get_or q j 0) c) i ∙ ap (λ (b : Bool). (b && eqb (get_or q i 0) c) || first_picked q k i c) y)

pub table_no : (q : List ℕ) (k i c : ℕ) → bit k i ≡ false → first_picked q k i c ≡ first_picked q k (i + 1) c
table_no q k i c n =
    sym (any_more (λ j. bit k j && eqb (get_or q j 0) c) i ∙ ap (λ (b : Bool). (b && eqb (get_or q i 0) c) || first_picked q k i c) n)

pub table_all : (q : List ℕ) (k i c : ℕ) → i ≡ length q → first_picked q k i c ≡ picked q k c
unfolding picked
table_all q k i c e = ap (any (λ j. bit k j && eqb (get_or q j 0) c)) e

pub members_same : (s t : ℕ → Bool) (n : ℕ) → ((c : ℕ) → c < n → s c ≡ t c) → members s n ≡ members t n
unfolding members
members_same s t zero f = refl
members_same s t (suc n) f =
    let a = members_same s t n (λ c l. f c (omega arith)) in
    ap (λ (xs : List ℕ). xs ++ cond (s n) (n ∷ []) []) a ∙ ap (λ (b : Bool). members t n ++ cond b (n ∷ []) []) (f n (omega arith))

-- there is room for one more member
pub table_room : (t : ℕ → Bool) (c n : ℕ) → c < n → t c ≡ true → count t n ≤ 64 → count t c < 64
table_room t c n l y h = omega (arith, count_rise t c n l y)

-- a table of what is picked has few members
pub table_few : (t : ℕ → Bool) (q : List ℕ) (k n : ℕ) → ((c : ℕ) → c < n → t c ≡ picked q k c) → count t n ≤ length q
table_few t q k n f = omega (arith, count_same t (picked q k) n f, picked_few q k n)

pub table_plus : (t : ℕ → Bool) (q : List ℕ) (k v n : ℕ) → ((c : ℕ) → c < n → t c ≡ plus v (picked q k) c) → count t n ≤ length q + 1
table_plus t q k v n f =
    omega (arith, count_same t (plus v (picked q k)) n f, block_few q k v n)

-- a number is marked beside what is picked
pub table_marked : (a b : List Bool) (q : List ℕ) (k v n : ℕ) → n ≤ 1024 → ((c : ℕ) → c < 1024 → get_or a c false ≡ picked q k c) → ((c : ℕ) → c < 1024 → get_or b c false ≡ (eqb v c || get_or a c false)) → (c : ℕ) → c < n → get_or b c false ≡ plus v (picked q k) c
table_marked a b q k v n s f h c l = h c (omega arith) ∙ ap (λ (x : Bool). eqb v c || x) (f c (omega arith))

-- ---- few are left near the end

pub backward_short : (t : ℕ → Bool) (xs : List ℕ) → length (backward t xs) ≤ length xs
backward_short t [] = omega (arith, ap length (backward_none t))
backward_short t (x ∷ xs) =
    let ih = backward_short t xs in
    elim (cases_Bool (t x)) [
      | inl y ↦ omega (arith, ap length (backward_yes t x xs y), length_push (backward t xs) x)
      | inr n ↦ omega (arith, ap length (backward_no t x xs n))
    ]

pub few_tail : (g : Graph) (p : List ℕ) (start : ℕ) → length p ≤ start + 64 → FewLater g p start
few_tail g p start h k l m =
    omega (arith, backward_short (clash g (get_or p k 0)) (drop (k + 1) p), length-drop (k + 1) p)

-- ---- the last, the last first

module _ (g : Graph) (p q : List ℕ) (start : ℕ) (is : q ≡ backward (λ _. true) (drop start p)) (within : start ≤ length p) (pic : Picture) (m : ℕ) (dr : Draws g q pic) (full : (i : ℕ) → bit m i ≡ ltb i (length q)) (once : EachOnce g p) where
  tail_has : (c : ℕ) → has q c ≡ last p (length p - start) c
  tail_has c =
      let e : start ≡ length p - (length p - start) = omega arith in
      ap (λ (l : List ℕ). has l c) is ∙ has_backward (λ _. true) (drop start p) c ∙ and_true (has (drop start p) c) ∙ ap (λ (k : ℕ). has (drop k p) c) e
    where
      and_true : (b : Bool) → (b && true) ≡ b
      and_true true = refl
      and_true false = refl

  tail_apart : Apart q
  tail_apart = subst Apart (sym is) (apart_backward (λ _. true) (drop start p) (apart_drop start p once.once))

  tail_held : (c : ℕ) → has q c ≡ true → held g c ≡ true
  tail_held c t =
      let d = length p - (length p - start) in
      let w = has_true (drop d p) c (sym (tail_has c) ∙ t) in
      let n = length-drop d p in
      ap (held g) (sym (sym (get_or-drop d p w.0 0) ∙ w.2)) ∙ once.vertex (d + w.0) (omega (arith, w.1))

  tail_found : (k b : ℕ) (block : List ℕ) (t : ℕ → Bool) → Largest pic m k → ((c : ℕ) → c < g.size → t c ≡ picked q k c) → b ≡ count t g.size → take b block ≡ members t g.size → BlockIn g (last p (length p - start)) block b
  tail_found k b block t lg same many front =
      let a = largest_drawn g q pic m dr tail_apart tail_held full k lg in
      let e : count (bit k) 64 ≡ b = sym a.many ∙ sym (count_same t (picked q k) g.size same) ∙ sym many in
      record {
        set = picked q k;
        largest = subst (LargestAmong g (last p (length p - start)) (picked q k)) e (largest_same g (has q) (last p (length p - start)) (picked q k) (count (bit k) 64) (λ c y. sym (tail_has c) ∙ y) (λ c y. tail_has c ∙ y) a);
        front = front ∙ members_same t (picked q k) g.size same;
      }

-- the same with what was found place by place
pub tail_climbed : (g : Graph) (p q : List ℕ) (start : ℕ) → q ≡ backward (λ _. true) (drop start p) → start ≤ length p → (pic : Picture) → Draws g q pic → EachOnce g p → (k n b : ℕ) (block : List ℕ) (t : ℕ → Bool) → Climbed pic (places pic) k n → ((c : ℕ) → c < g.size → t c ≡ picked q k c) → b ≡ count t g.size → take b block ≡ members t g.size → BlockIn g (last p (length p - start)) block b
tail_climbed g p q start is within pic dr once k n b block t cl =
    let m = 2 ^ length q - 1 in
    tail_found g p q start is within pic m dr (bit_below (length q)) once k b block t (climbed_all pic (places pic) k n m refl (λ j. bit_below (length q) j ∙ ap (ltb j) (sym dr.size)) cl)
