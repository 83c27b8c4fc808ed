-- The colours that a colouring uses.
use Rattle.std.proofs.Common.{◌≡◌, ℕ, ◌+◌, ◌-◌, ◌<◌, ◌≤◌, Bool, true, false, cond, not, ◌&&◌, eqb, sym, refl, ◌∙◌, subst, inl, inr, arith}
use Rattle.std.proofs.lemmas.Bool.{cases_Bool, cases_eq, cases_order, and_parts, and_from, both_ways, not-true, not_from_false, eqb-true, eq-eqb, ne_eqb, cond-true, cond-false}
use Rattle.finite.specs.Finite.{any}
use Rattle.finite.proofs.Counts.{count_onto, count_le, any_false}
use Rattle.finite.proofs.Pigeons.{any_from, lowest_of, count_inject, hit, hit_some, hit_none}
use Rattle.graph.specs.Graph.{Graph, held}
use Rattle.graph.specs.Cliques.{CliqueOf}
use Rattle.graph.specs.Colourings.{Proper, Coloured, Colourable, leads, used}
use Rattle.graph.proofs.Graphs.{held_below}

-- the lowest vertex of a colour
pub lead_of : (g : Graph) (col : ℕ → ℕ) (c : ℕ) → held g c ≡ true → (b : ℕ) × (b < g.size) × (leads g col b ≡ true) × (col c ≡ col b)
unfolding leads
lead_of g col c y =
    let n = held_below g c y in
    let p : ℕ → Bool = λ b. held g b && eqb (col b) (col c) in
    let w = lowest_of p g.size (any_from p g.size c n (and_from (held g c) (eqb (col c) (col c)) y (eq-eqb (col c) (col c) refl))) in
    let h = and_parts (held g w.0) (eqb (col w.0) (col c)) w.2 in
    let e = eqb-true (col w.0) (col c) h.1 in
    (w.0, w.1, and_from (held g w.0) (not (any (λ b. held g b && eqb (col b) (col w.0)) w.0)) h.0 (not_from_false (any (λ b. held g b && eqb (col b) (col w.0)) w.0) (subst (λ v. any (λ b. held g b && eqb (col b) v) w.0 ≡ false) (sym e) w.3)), sym e)

pub leads_held : (g : Graph) (col : ℕ → ℕ) (c : ℕ) → leads g col c ≡ true → held g c ≡ true
unfolding leads
leads_held g col c e = (and_parts (held g c) (not (any (λ b. held g b && eqb (col b) (col c)) c)) e).0

-- no other of the same colour comes before
pub leads_first : (g : Graph) (col : ℕ → ℕ) (c b : ℕ) → leads g col c ≡ true → held g b ≡ true → col b ≡ col c → b < c → ⊥
unfolding leads
leads_first g col c b e y q l =
    let z = not-true (any (λ b. held g b && eqb (col b) (col c)) c) (and_parts (held g c) (not (any (λ b. held g b && eqb (col b) (col c)) c)) e).1 in
    both_ways (held g b && eqb (col b) (col c)) (any_false (λ b. held g b && eqb (col b) (col c)) c z b l) (and_from (held g b) (eqb (col b) (col c)) y (eq-eqb (col b) (col c) q))

pub leads_one : (g : Graph) (col : ℕ → ℕ) (a c : ℕ) → leads g col a ≡ true → leads g col c ≡ true → col a ≡ col c → a ≡ c
leads_one g col a c x y e =
    elim (cases_order a c) [
      | inl q ↦ q
      | inr o ↦ elim o [
        | inl l ↦ absurd (leads_first g col c a y (leads_held g col a x) e l)
        | inr l ↦ absurd (leads_first g col a c x (leads_held g col c y) (sym e) l)
      ]
    ]

-- no more than k
pub used_most : (g : Graph) (k : ℕ) (col : ℕ → ℕ) → Coloured g k col → used g col ≤ k
unfolding used
used_most g k col h =
    let all : ℕ → Bool = λ _. true in
    let l = count_inject (leads g col) all (λ c d. col c ≡ d + 1) g.size k (λ c m y. let z = leads_held g col c y in let lo = h.low c z in let hi = h.high c z in (col c - 1, omega arith, refl, omega arith)) (λ a c b m n x y p q. leads_one g col a c x y (p ∙ sym q)) in
    let n = count_le all k in
    omega arith

-- at least m where each of the colours 1 to m occurs
pub used_least : (g : Graph) (m : ℕ) (col : ℕ → ℕ) → ((d : ℕ) → 1 ≤ d → d ≤ m → (c : ℕ) × (held g c ≡ true) × (col c ≡ d)) → m ≤ used g col
unfolding used
used_least g m col f =
    count_onto (leads g col) (λ c. col c - 1) g.size m (λ k l. let w = f (k + 1) (omega arith) (omega arith) in let v = lead_of g col w.0 w.1 in (v.0, v.1, v.2, omega (arith, w.2, v.3)))

-- the colour k in place of d, which no vertex has
pub moved : (ℕ → ℕ) → ℕ → ℕ → ℕ → ℕ
moved col k d c = cond (eqb (col c) k) d (col c)

pub moved_at : (col : ℕ → ℕ) (k d c : ℕ) → col c ≡ k → moved col k d c ≡ d
unfolding moved
moved_at col k d c e = cond-true (eqb (col c) k) d (col c) (eq-eqb (col c) k e)

pub moved_off : (col : ℕ → ℕ) (k d c : ℕ) → (col c ≡ k → ⊥) → moved col k d c ≡ col c
unfolding moved
moved_off col k d c e = cond-false (eqb (col c) k) d (col c) (ne_eqb (col c) k e)

-- a colour that no vertex has can be done without
pub fewer_colours : (g : Graph) (k d : ℕ) (col : ℕ → ℕ) → Coloured g (k + 1) col → 1 ≤ d → d ≤ k + 1 → ((c : ℕ) → held g c ≡ true → col c ≡ d → ⊥) → Coloured g k (moved col (k + 1) d)
fewer_colours g k d col h one top none =
    record {
      low = λ c y. elim (cases_eq (col c) (k + 1)) [ inl e ↦ omega (arith, moved_at col (k + 1) d c e) | inr e ↦ omega (arith, moved_off col (k + 1) d c e, h.low c y) ];
      high = λ c y. elim (cases_eq (col c) (k + 1)) [
        | inl e ↦ elim (cases_eq d (k + 1)) [ inl q ↦ absurd (none c y (e ∙ sym q)) | inr q ↦ omega (arith, moved_at col (k + 1) d c e) ]
        | inr e ↦ omega (arith, moved_off col (k + 1) d c e, h.high c y)
      ];
      apart = λ a b y z e q. elim (cases_eq (col a) (k + 1)) [
        | inl i ↦ elim (cases_eq (col b) (k + 1)) [
          | inl j ↦ h.apart a b y z e (i ∙ sym j)
          | inr j ↦ none b z (sym (moved_off col (k + 1) d b j) ∙ sym q ∙ moved_at col (k + 1) d a i)
        ]
        | inr i ↦ elim (cases_eq (col b) (k + 1)) [
          | inl j ↦ none a y (sym (moved_off col (k + 1) d a i) ∙ q ∙ moved_at col (k + 1) d b j)
          | inr j ↦ h.apart a b y z e (sym (moved_off col (k + 1) d a i) ∙ q ∙ moved_off col (k + 1) d b j)
        ]
      ];
    }

-- where fewer do not suffice, every colour occurs
pub every_colour : (g : Graph) (k : ℕ) (col : ℕ → ℕ) → Coloured g (k + 1) col → (Colourable g k → ⊥) → (d : ℕ) → 1 ≤ d → d ≤ k + 1 → (c : ℕ) × (held g c ≡ true) × (col c ≡ d)
every_colour g k col h no-fewer d one top =
    elim (cases_Bool (hit (held g) col g.size d)) [
      | inl y ↦ let w = hit_some (held g) col g.size d y in (w.0, w.2, w.3)
      | inr y ↦ absurd (no-fewer (moved col (k + 1) d, fewer_colours g k d col h one top (λ c z. hit_none (held g) col g.size d y c (held_below g c z) z)))
    ]

pub used_exactly : (g : Graph) (k : ℕ) (col : ℕ → ℕ) → Coloured g k col → (Colourable g (k - 1) → ⊥) → used g col ≡ k
used_exactly g k col h no-fewer =
    elim (cases_eq k 0) [
      | inl z ↦ absurd (no-fewer (col, (let e : k ≡ k - 1 = omega arith in subst (λ v. Coloured g v col) e h)))
      | inr z ↦ let e : k ≡ k - 1 + 1 = omega arith in
          let u = used_most g k col h in
          let v = used_least g (k - 1 + 1) col (every_colour g (k - 1) col (subst (λ v. Coloured g v col) e h) no-fewer) in
          omega arith
    ]

-- the members of a clique have different colours
pub clique_used : (g : Graph) (K : ℕ → Bool) (b : ℕ) (col : ℕ → ℕ) → CliqueOf g K b → Proper g col → b ≤ used g col
unfolding used
clique_used g K b col h p =
    let l = count_inject K (leads g col) (λ c d. col c ≡ col d) g.size g.size (λ c m y. lead_of g col c (h.clique.members c y)) (λ a c d m n x y u v. elim (cases_eq a c) [ inl e ↦ e | inr ne ↦ absurd (p a c (h.clique.joins a c x y ne) (u ∙ sym v)) ]) in
    omega (arith, h.many)
