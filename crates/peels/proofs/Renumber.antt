-- The colours that a proper colouring uses, numbered from 1 by their lowest vertices.
use Rattle.std.proofs.Common.{◌≡◌, ℕ, ◌+◌, ◌<◌, true, sym, ap, ◌∙◌, inl, inr, arith}
use Rattle.std.proofs.lemmas.Bool.{cases_Bool, cases_lt, both_ways}
use Rattle.finite.specs.Finite.{count}
use Rattle.finite.proofs.Members.{count_rise, rank_one}
use Rattle.graph.specs.Graph.{Graph, held}
use Rattle.graph.specs.Colourings.{Proper, Colourable, leads, used}
use Rattle.colourings.proofs.Used.{lead_of}

-- the lowest vertex of the colour of c, or c where it is no vertex
lead : (g : Graph) (col : ℕ → ℕ) (c : ℕ) → (b : ℕ) × (held g c ≡ true → (b < g.size) × (leads g col b ≡ true) × (col c ≡ col b))
lead g col c =
    elim (cases_Bool (held g c)) [
      | inl y ↦ let w = lead_of g col c y in (w.0, λ _. (w.1, w.2, w.3))
      | inr n ↦ (c, λ y. absurd (both_ways (held g c) n y))
    ]

pub used_suffice : (g : Graph) (col : ℕ → ℕ) → Proper g col → Colourable g (used g col)
unfolding used
used_suffice g col h =
    let at : ℕ → ℕ = λ c. (lead g col c).0 in (
      (λ c. count (leads g col) (at c) + 1),
      record {
        low = λ c y. omega arith;
        high = λ c y. let w = (lead g col c).1 y in omega (arith, count_rise (leads g col) (at c) g.size w.0 w.1);
        apart = λ a b y z e q. let v = (lead g col a).1 y in
            let w = (lead g col b).1 z in
            let same = rank_one (leads g col) (at a) (at b) v.1 w.1 (omega arith) in
            h a b e (v.2 ∙ ap col same ∙ sym w.2);
      },
    )

-- no proper colouring with fewer than k colours, where k - 1 do not suffice
pub used_above : (g : Graph) (k : ℕ) (col : ℕ → ℕ) → (Colourable g k → ⊥) → Proper g col → k < used g col
used_above g k col no-k h =
    elim (cases_lt k (used g col)) [
      | inl l ↦ l
      | inr l ↦ absurd (let w = used_suffice g col h in no-k (w.0, record { low = w.1.low; high = λ c y. (let t = w.1.high c y in omega arith); apart = w.1.apart }))
    ]
