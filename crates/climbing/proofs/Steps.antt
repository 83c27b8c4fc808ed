-- A largest clique inside a set, when one vertex is added to the set.
use Rattle.std.proofs.Common.{◌≡◌, ℕ, ◌+◌, ◌≤◌, Bool, true, false, not, ◌&&◌, eqb, ◌⊎◌, sym, refl, ap, ◌∙◌, inl, inr, ⊎_elim, arith}
use Rattle.std.proofs.lemmas.Bool.{cases_Bool, cases_eq, both_ways, eqb-true, eq-eqb, ne_eqb, and_parts, and_from, or_cases, or_left, or_right, not-true}
use Rattle.finite.specs.Finite.{count}
use Rattle.finite.specs.Supports.{Within}
use Rattle.finite.proofs.Counts.{count_less, count_mono, minus, minus_self, minus_other, or_no}
use Rattle.finite.proofs.Splits.{count_split, count_one}
use Rattle.graph.specs.Graph.{Graph, Lawful, held, clash}
use Rattle.graph.specs.Cliques.{Clique}
use Rattle.graph.proofs.Graphs.{held_below}
use Rattle.climbing.specs.Climbs.{AtMostAmong, LargestAmong, near, plus}

pub minus_member : (M : ℕ → Bool) (v c : ℕ) → minus M v c ≡ true → (M c ≡ true) × (c ≡ v → ⊥)
minus_member M v c t =
    elim (cases_eq c v) [
      | inl e ↦ absurd (both_ways (minus M v c) (ap (minus M v) e ∙ minus_self M v) t)
      | inr ne ↦ (minus_other M v c ne ∙ t, ne)
    ]

pub clique_minus : (g : Graph) (M : ℕ → Bool) (v : ℕ) → Clique g M → Clique g (minus M v)
clique_minus g M v k = record {
  members = λ c t. k.members c (minus_member M v c t).0;
  joins = λ a b t u. k.joins a b (minus_member M v a t).0 (minus_member M v b u).0;
}

pub count_minus : (g : Graph) (M : ℕ → Bool) (v : ℕ) → Clique g M → M v ≡ true → count M g.size ≡ count (minus M v) g.size + 1
count_minus g M v k y =
    count_less M (minus M v) v g.size (held_below g v (k.members v y)) y (minus_self M v) (minus_other M v)

-- a clique inside the set and v is inside the set, or is v with neighbours of v
pub most_plus : (g : Graph) (s t : ℕ → Bool) (v a b n : ℕ) → ((c : ℕ) → t c ≡ true → plus v s c ≡ true) → AtMostAmong g s b → AtMostAmong g (near g s v) a → b ≤ n → a + 1 ≤ n → AtMostAmong g t n
most_plus g s t v a b n sub ms mn l h M k w =
    elim (cases_Bool (M v)) [
      | inl y ↦ let e = count_minus g M v k y in
          let x = mn (minus M v) (clique_minus g M v k) (λ c u. let d = minus_member M v c u in and_from (s c) (clash g v c) (others c d.0 d.1) (k.joins v c y d.0 (λ i. d.1 (sym i)))) in
          omega arith
      | inr z ↦ let x = ms M k (λ c u. others c u (λ e. both_ways (M v) z (ap M (sym e) ∙ u))) in omega arith
    ]
  where
    others : (c : ℕ) → M c ≡ true → (c ≡ v → ⊥) → s c ≡ true
    others c u ne =
        ⊎_elim (λ (e : eqb v c ≡ true). absurd (ne (sym (eqb-true v c e)))) (λ x. x) (or_cases (eqb v c) (s c) (sub c (w c u)))

plus_member : (L : ℕ → Bool) (v c : ℕ) → plus v L c ≡ true → (v ≡ c) ⊎ (L c ≡ true)
plus_member L v c t = ⊎_elim (λ e. inl (eqb-true v c e)) inr (or_cases (eqb v c) (L c) t)

module _ (g : Graph) (s L : ℕ → Bool) (v : ℕ) (law : Lawful g) (hv : held g v ≡ true) (k : Clique g L) (w : Within L (near g s v)) where
  beside : (c : ℕ) → L c ≡ true → clash g v c ≡ true
  beside c t = (and_parts (s c) (clash g v c) (w c t)).1

  pub clique_plus : Clique g (plus v L)
  clique_plus = record {
    members = λ c t. ⊎_elim (λ (e : v ≡ c). ap (held g) (sym e) ∙ hv) (k.members c) (plus_member L v c t);
    joins = λ a b t u ne. ⊎_elim
        (λ (e : v ≡ a). ⊎_elim (λ (d : v ≡ b). absurd (ne (sym e ∙ d))) (λ y. ap (λ (x : ℕ). clash g x b) (sym e) ∙ beside b y) (plus_member L v b u))
        (λ x. ⊎_elim (λ (d : v ≡ b). ap (clash g a) (sym d) ∙ law.both a v ∙ beside a x) (λ y. k.joins a b x y ne) (plus_member L v b u))
        (plus_member L v a t);
  }

  pub count_plus : count (plus v L) g.size ≡ count L g.size + 1
  count_plus =
      let free : L v ≡ false = elim (cases_Bool (L v)) [ inl y ↦ absurd (both_ways (clash g v v) (law.never v) (beside v y)) | inr n ↦ n ] in
      count_less (plus v L) L v g.size (held_below g v hv) (or_left (eqb v v) (L v) (eq-eqb v v refl)) free
      (λ c ne. or_no (eqb v c) (L c) (ne_eqb v c (λ e. ne (sym e))))

pub largest_plus : (g : Graph) (s t L : ℕ → Bool) (v b l : ℕ) → Lawful g → held g v ≡ true → ((c : ℕ) → t c ≡ plus v s c) → LargestAmong g (near g s v) L l → AtMostAmong g s b → b ≤ l + 1 → LargestAmong g t (plus v L) (l + 1)
largest_plus g s t L v b l law hv is lg ms le = record {
  clique = clique_plus g s L v law hv lg.clique lg.within;
  within = λ c u. is c ∙ ⊎_elim (λ (e : eqb v c ≡ true). or_left (eqb v c) (s c) e) (λ x. or_right (eqb v c) (s c) (and_parts (s c) (clash g v c) (lg.within c x)).0) (or_cases (eqb v c) (L c) u);
  many = count_plus g s L v law hv lg.clique lg.within ∙ ap (λ (x : ℕ). x + 1) lg.many;
  most = most_plus g s t v l b (l + 1) (λ c u. sym (is c) ∙ u) ms lg.most le (omega arith);
}

pub largest_stays : (g : Graph) (s t K : ℕ → Bool) (v a b : ℕ) → ((c : ℕ) → t c ≡ plus v s c) → LargestAmong g s K b → AtMostAmong g (near g s v) a → a + 1 ≤ b → LargestAmong g t K b
largest_stays g s t K v a b is lg mn le = record {
  clique = lg.clique;
  within = λ c u. is c ∙ or_right (eqb v c) (s c) (lg.within c u);
  many = lg.many;
  most = most_plus g s t v a b b (λ c u. sym (is c) ∙ u) lg.most mn (omega arith) le;
}

pub most_same : (g : Graph) (s t : ℕ → Bool) (b : ℕ) → Within t s → AtMostAmong g s b → AtMostAmong g t b
most_same g s t b ts ms K k w = ms K k (λ c u. ts c (w c u))

pub largest_same : (g : Graph) (s t K : ℕ → Bool) (b : ℕ) → Within s t → Within t s → LargestAmong g s K b → LargestAmong g t K b
largest_same g s t K b st ts lg =
    record { clique = lg.clique; within = λ c u. st c (lg.within c u); many = lg.many; most = most_same g s t b ts lg.most }

-- with v a set has at most one member more
pub plus_few : (s : ℕ → Bool) (v n : ℕ) → count (plus v s) n ≤ count s n + 1
plus_few s v n =
    let a = count_split (plus v s) (eqb v) n in
    let one = count_one (λ c. plus v s c && eqb v c) n (λ i j _ _ t u. sym (eqb-true v i (and_parts (plus v s i) (eqb v i) t).1) ∙ eqb-true v j (and_parts (plus v s j) (eqb v j) u).1) in
    let rest = count_mono (λ c. plus v s c && not (eqb v c)) s n (λ c _ t. other c (and_parts (plus v s c) (not (eqb v c)) t)) in
    omega arith
  where
    other : (c : ℕ) → (plus v s c ≡ true) × (not (eqb v c) ≡ true) → s c ≡ true
    other c h = ⊎_elim (λ e. absurd (both_ways (eqb v c) (not-true (eqb v c) h.1) e)) (λ x. x) (or_cases (eqb v c) (s c) h.0)
