-- The two-part bound is sound over a sound bound.
use Rattle.std.specs.Prelude.{◌≡◌, ℕ, ◌/◌, ◌^◌, ◌<◌, ◌≤◌, Bool, true, false, not, ◌&&◌, nat_lt}
use Rattle.std.proofs.Common.{ap, ◌∙◌, arith}
use Rattle.std.proofs.lemmas.Bool.{and_parts, and_from, lt-ltb, not-true, both_ways}
use Rattle.finite.specs.Finite.{count}
use Rattle.finite.specs.Masks.{bit, mask}
use Rattle.finite.proofs.Masks.{bit_mask, mask_lt}
use Rattle.grids.proofs.Parts.{parts_sound}
use Rattle.pictures.specs.Pictures.{Clique, joined, places}
use Rattle.pictures.specs.declared.shape.Picture.{Picture}
use Rattle.two_part.specs.TwoPart.{lower_part, upper_part, clique_degree, two_part}

module _ (answer : Picture → ℕ → ℕ) (law : (p : Picture) (m : ℕ) (K : ℕ → Bool) → m < 2 ^ 64 → Clique p m K → count K 64 ≤ answer p m) (p : Picture) (m : ℕ) (K : ℕ → Bool) (k : Clique p m K) where
  member : (t : ℕ → Bool) (i : ℕ) → K i ≡ true → t i ≡ true → bit (mask t 64) i ≡ true
  member t i x y =
      bit_mask t 64 i ∙ and_from (nat_lt i 64) (t i) (lt-ltb i 64 (let h = k.placed i x in omega (arith, p.small))) y

  in_lower : (i : ℕ) → (K i && nat_lt i (places p / 2)) ≡ true → bit (lower_part p m) i ≡ true
  in_lower i x =
      let h = and_parts (K i) (nat_lt i (places p / 2)) x in
      member (λ i. bit m i && nat_lt i (places p / 2)) i h.0 (and_from (bit m i) (nat_lt i (places p / 2)) (k.inside i h.0) h.1)

  in_upper : (i : ℕ) → (K i && not (nat_lt i (places p / 2))) ≡ true → bit (upper_part p m) i ≡ true
  in_upper i x =
      let h = and_parts (K i) (not (nat_lt i (places p / 2))) x in
      member (λ i. (bit m i && nat_lt i (places p)) && not (nat_lt i (places p / 2))) i h.0 (and_from (bit m i && nat_lt i (places p)) (not (nat_lt i (places p / 2))) (and_from (bit m i) (nat_lt i (places p)) (k.inside i h.0) (lt-ltb i (places p) (k.placed i h.0))) h.1)

  -- the members in the other part are among the neighbours of a member
  across : (i : ℕ) → K i ≡ true → (t : ℕ → Bool) (other : ℕ) → t i ≡ false → ((j : ℕ) → (K j && t j) ≡ true → bit other j ≡ true) → count (λ j. K j && t j) 64 ≤ clique_degree answer p other i
  across i x t other out within =
      law p (mask (λ j. joined p i j && bit other j) 64) (λ j. K j && t j) (mask_lt (λ j. joined p i j && bit other j) 64) record {
        placed = λ j y. k.placed j (and_parts (K j) (t j) y).0;
        inside = λ j y. let h = and_parts (K j) (t j) y in member (λ j. joined p i j && bit other j) j h.0 (and_from (joined p i j) (bit other j) (k.joins i j x h.0 (λ e. both_ways (t i) out (ap t e ∙ h.1))) (within j y));
        joins = λ a b y z. k.joins a b (and_parts (K a) (t a) y).0 (and_parts (K b) (t b) z).0;
      }

  pub two_part_sound : count K 64 ≤ two_part answer p m
  two_part_sound =
      parts_sound p.rows p.even p.loopless (places p) p.small (lower_part p m) (upper_part p m) K (λ i. nat_lt i (places p / 2)) k.placed in_lower in_upper k.joins (clique_degree answer p (upper_part p m)) (clique_degree answer p (lower_part p m))
      (λ i x. let h = and_parts (K i) (nat_lt i (places p / 2)) x in across i h.0 (λ j. not (nat_lt j (places p / 2))) (upper_part p m) (ap not h.1) in_upper)
      (λ i x. let h = and_parts (K i) (not (nat_lt i (places p / 2))) x in across i h.0 (λ j. nat_lt j (places p / 2)) (lower_part p m) (not-true (nat_lt i (places p / 2)) h.1) in_lower)
