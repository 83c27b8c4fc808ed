-- Stamping the first i neighbours.
use Rattle.std.proofs.Common.{◌≡◌, ℕ, ◌+◌, ◌<◌, ◌≤◌, Bool, true, false, cond, ◌&&◌, eqb, ltb, List, length, get_or, set, sym, refl, ap, ◌∙◌, inl, inr, arith}
use Rattle.std.proofs.lemmas.List.{get_or-set_same, get_or-set_other}
use Rattle.std.proofs.lemmas.Bool.{cases_Bool, cases_eq, both_ways, lt-ltb, eq-eqb, ne_eqb, and_from, and_right}
use Rattle.finite.specs.Finite.{count}
use Rattle.finite.proofs.Members.{count_rise, rank_one}
use Rattle.graph.specs.Graph.{Graph, clash, degree}
use Rattle.graph.proofs.Graphs.{held_below, clash_right}
use Rattle.stamps.specs.Stamped.{Stamped}

-- each neighbour of v whose rank is below i has the stamp
pub record First (g : Graph) (v s : ℕ) (before after : List ℕ) (i : ℕ) : Type 0 where
  pub done : (c : ℕ) → clash g v c ≡ true → count (clash g v) c < i → get_or after c 0 ≡ s
  pub others : (c : ℕ) → clash g v c ≡ false → get_or after c 0 ≡ get_or before c 0

pub first_none : (g : Graph) (v s : ℕ) (row : List ℕ) (i : ℕ) → i ≡ 0 → First g v s row row i
first_none g v s row i e = record { done = λ c y h. absurd (omega arith); others = λ c y. refl }

pub first_more : (g : Graph) (v s : ℕ) (before after : List ℕ) (i b j : ℕ) → First g v s before after i → b < length after → clash g v b ≡ true → count (clash g v) b ≡ i → j ≡ i + 1 → First g v s before (set after b s) j
first_more g v s before after i b j t lt y e more = record {
  done = λ c z h. elim (cases_eq c b) [
    | inl q ↦ ap (λ (m : ℕ). get_or (set after b s) m 0) q ∙ get_or-set_same after b s 0 lt
    | inr ne ↦ let r : count (clash g v) c ≡ i → ⊥ = λ x. ne (rank_one (clash g v) c b z y (x ∙ sym e)) in
        get_or-set_other after b c s 0 ne ∙ t.done c z (omega arith)
  ];
  others = λ c z. let ne : c ≡ b → ⊥ = λ q. both_ways (clash g v b) (ap (clash g v) (sym q) ∙ z) y in get_or-set_other after b c s 0 ne ∙ t.others c z;
}

pub first_all : (g : Graph) (v s : ℕ) (before after : List ℕ) (i : ℕ) → First g v s before after i → degree g v ≤ i → Stamped g v s before after
unfolding degree
first_all g v s before after i t e c =
    elim (cases_Bool (clash g v c)) [
      | inl y ↦ let d = t.done c y (omega (arith, count_rise (clash g v) c g.size (held_below g c (clash_right g v c y)) y)) in rw y d
      | inr y ↦ let d = t.others c y in rw y d
    ]

-- ---- what a table that was turned says

pub turned : (g : Graph) (v s : ℕ) (before after : List ℕ) → g.size < 1025 → Stamped g v s before after → ((c : ℕ) → get_or before c 0 < s) → (c : ℕ) → (ltb c 1024 && eqb (get_or after c 0) s) ≡ clash g v c
turned g v s before after small st past c =
    elim (cases_Bool (clash g v c)) [
      | inl y ↦ let l = held_below g c (clash_right g v c y) in
          let e : get_or after c 0 ≡ s = st c ∙ ap (λ (b : Bool). cond b s (get_or before c 0)) y in
          and_from (ltb c 1024) (eqb (get_or after c 0) s) (lt-ltb c 1024 (omega arith)) (eq-eqb (get_or after c 0) s e) ∙ sym y
      | inr y ↦ let e : get_or after c 0 ≡ get_or before c 0 = st c ∙ ap (λ (b : Bool). cond b s (get_or before c 0)) y in
          let p = past c in
          and_right (ltb c 1024) (eqb (get_or after c 0) s) (ne_eqb (get_or after c 0) s (λ q. omega arith)) ∙ sym y
    ]
