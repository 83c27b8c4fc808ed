-- Every clique has at most as many vertices as the bound.
use Rattle.std.proofs.Common.{◌≡◌, ℕ, zero, suc, ◌+◌, ◌-◌, ◌<◌, ◌≤◌, min, Bool, true, not, ◌&&◌, eqb, sym, ap, ◌∙◌, subst, inl, inr, arith}
use Rattle.std.proofs.lemmas.Bool.{cases_Bool, cases_lt, both_ways, and_parts, and_from, and_left, and_right, ne_eqb, eqb-false, not-true, not_from_false}
use Rattle.std.proofs.lemmas.Bool.Decides.{nat_tests}
use Rattle.finite.specs.Finite.{count}
use Rattle.finite.proofs.Counts.{count_same, count_less, count_pos}
use Rattle.graph.specs.Graph.{Graph, Lawful, held, clash, inside, vertices}
use Rattle.graph.specs.Edges.{edge_list}
use Rattle.graph.specs.Cliques.{Clique}
use Rattle.graph.specs.Degeneracy.{IsDegeneracy}
use Rattle.graph.proofs.Graphs.{held_below}
use Rattle.degeneracy.proofs.Orders.{degeneracy_one}
use Rattle.forms.proofs.Edges.{edge_list_joins}
use Rattle.supports.specs.Peel.{but}
use Rattle.supports.proofs.Draining.{but_self, but_same}
use Rattle.cohesion.specs.Community.{Tight, HasEdge, IsCommunityNumber}
use Rattle.cohesion.proofs.Places.{joins_place}
use Rattle.cohesion.proofs.Bridge.{number_one}
use Rattle.caps.specs.Cap.{edge_count, IsCap}
use Rattle.caps.specs.Theorems.{CapBounds, CliqueCommunity, OneCap}

-- a set with a number has a member
pub member_of : (s : ℕ → Bool) (n : ℕ) → 0 < count s n → (c : ℕ) × (c < n) × (s c ≡ true)
unfolding count
member_of s zero l = absurd (omega arith)
member_of s (suc n) l =
    elim (cases_Bool (s n)) [
      | inl y ↦ (n, omega arith, y)
      | inr y ↦ let r = member_of s n (grind (arith, nat_tests)) in (r.0, omega (arith, r.1), r.2)
    ]

-- an edge is listed
edge_pos : (g : Graph) → Lawful g → (a b : ℕ) → clash g a b ≡ true → 0 < edge_count g
edge_pos g lw a b y =
    let r = joins_place (edge_list g) a b (edge_list_joins g lw a b ∙ y) in omega (arith, r.1)

vertex_pos : (g : Graph) (a : ℕ) → held g a ≡ true → 0 < vertices g
unfolding vertices
vertex_pos g a y = count_pos (held g) g.size a (held_below g a y) y

module _ (g : Graph) (lw : Lawful g) (s : ℕ → Bool) (q : Clique g s) where
  size : ℕ
  size = count s g.size

  -- each member has all others as neighbours
  others : (c : ℕ) → s c ≡ true → count s g.size ≡ inside g s c + 1
  unfolding inside
  others c y =
      count_less s (λ b. s b && clash g c b) c g.size (held_below g c (q.members c y)) y (and_right (s c) (clash g c c) (lw.never c)) (λ b ne. elim (cases_Bool (s b)) [
        | inl z ↦ z ∙ sym (and_from (s b) (clash g c b) z (q.joins c b y z (λ e. ne (sym e))))
        | inr z ↦ z ∙ sym (and_left (s b) (clash g c b) z)
      ])

  -- the edges within the clique
  within : ℕ → ℕ → Bool
  within a b = s a && (s b && not (eqb a b))

  parts : (a b : ℕ) → within a b ≡ true → (s a ≡ true) × (s b ≡ true) × (a ≡ b → ⊥)
  unfolding within
  parts a b y =
      let p = and_parts (s a) (s b && not (eqb a b)) y in
      let r = and_parts (s b) (not (eqb a b)) p.1 in
      (p.0, r.0, eqb-false a b (not-true (eqb a b) r.1))

  made : (a b : ℕ) → s a ≡ true → s b ≡ true → (a ≡ b → ⊥) → within a b ≡ true
  unfolding within
  made a b y z ne = and_from (s a) (s b && not (eqb a b)) y (and_from (s b) (not (eqb a b)) z (not_from_false (eqb a b) (ne_eqb a b ne)))

  swap : (a b : ℕ) → within a b ≡ within b a
  unfolding within
  swap a b = grind (arith, nat_tests)

  -- two members have all but themselves as common neighbours
  shared : (a b : ℕ) → within a b ≡ true → count s g.size ≡ count (λ w. within a w && within b w) g.size + 2
  unfolding within but
  shared a b y =
      let p = parts a b y in
      let la = held_below g a (q.members a p.0) in
      let lb = held_below g b (q.members b p.1) in
      let one = count_less s (but s a) a g.size la p.0 (but_self s a) (λ c ne. sym (but_same s a c ne)) in
      let two = count_less (but s a) (but (but s a) b) b g.size lb (but_same s a b (λ e. p.2 (sym e)) ∙ p.1) (but_self (but s a) b) (λ c ne. sym (but_same (but s a) b c ne)) in
      let sa = p.0 in
      let sb = p.1 in
      let same = count_same (but (but s a) b) (λ w. within a w && within b w) g.size (λ w l. grind (arith, nat_tests)) in
      omega arith

  tight : Tight g (count s g.size - 2) within
  tight =
      record {
        within = λ a b y. let p = parts a b y in q.joins a b p.0 p.1 p.2;
        both = swap;
        each = λ a b y. omega (arith, shared a b y);
      }

  -- two members
  two : 1 < count s g.size → HasEdge within
  two l =
      let a = member_of s g.size (omega arith) in
      let less = count_less s (but s a.0) a.0 g.size a.1 a.2 (but_self s a.0) (λ c ne. sym (but_same s a.0 c ne)) in
      let b = member_of (but s a.0) g.size (omega arith) in
      let ne : b.0 ≡ a.0 → ⊥ = λ e. both_ways (but s a.0 b.0) (ap (but s a.0) e ∙ but_self s a.0) b.2 in
      record { left = a.0; right = b.0; edge = made a.0 b.0 a.2 (sym (but_same s a.0 b.0 ne) ∙ b.2) (λ e. ne (sym e)) }

  by_degeneracy : (d : ℕ) → IsDegeneracy g d → count s g.size ≤ d + 1
  by_degeneracy d h =
      elim (cases_lt 0 (count s g.size)) [
        | inr l ↦ omega arith
        | inl l ↦ let a = member_of s g.size l in
            let v = h.sparse s q.members a.0 a.2 in
            omega (arith, others v.0 v.1, v.2)
      ]

  by_number : (k : ℕ) → IsCommunityNumber g k → count s g.size ≤ k + 2
  by_number k h =
      elim (cases_lt 1 (count s g.size)) [
        | inr l ↦ omega arith
        | inl l ↦ omega (arith, h.most (count s g.size - 2) within tight (two l))
      ]

  pub bounded : (r : ℕ) → IsCap g r → count s g.size ≤ r
  bounded r h =
      elim (cases_lt 0 (count s g.size)) [
        | inr l ↦ omega arith
        | inl l ↦ let a = member_of s g.size l in
            let v = vertex_pos g a.0 (q.members a.0 a.2) in
            elim (cases_lt 0 (edge_count g)) [
              | inl e ↦ let b = h.edged e in omega (arith, b.smaller, by_degeneracy b.degeneracy b.is_degeneracy, by_number b.number b.is_number)
              | inr e ↦ elim (cases_lt 1 (count s g.size)) [
                | inr m ↦ omega (arith, h.plain v (omega arith))
                | inl m ↦ let t = two m in absurd (omega (arith, edge_pos g lw t.left t.right (tight.within t.left t.right t.edge)))
              ]
            ]
      ]

pub cap_bounds : CapBounds
cap_bounds g r k K lw is q = omega (arith, bounded g lw K q.clique r is, q.many)

pub clique_community : CliqueCommunity
clique_community g K k lw q l = (
  within g lw K q.clique,
  subst (λ v. Tight g (v - 2) (within g lw K q.clique)) q.many (tight g lw K q.clique),
  two g lw K q.clique (omega (arith, q.many)),
  made g lw K q.clique,
)

-- the cases of the bound exclude each other
pub one_cap : OneCap
one_cap g q r a b =
    elim (cases_lt 0 (edge_count g)) [
      | inl l ↦ let x = a.edged l in let y = b.edged l in
          let d = degeneracy_one g x.degeneracy y.degeneracy x.is_degeneracy y.is_degeneracy in
          let n = number_one g x.number y.number x.is_number y.is_number in
          x.smaller ∙ ap (λ v. min (v + 1) (x.number + 2)) d ∙ ap (λ v. min (y.degeneracy + 1) (v + 2)) n ∙ sym y.smaller
      | inr l ↦ elim (cases_lt 0 (vertices g)) [
        | inl v ↦ a.plain v (omega arith) ∙ sym (b.plain v (omega arith))
        | inr v ↦ a.empty (omega arith) ∙ sym (b.empty (omega arith))
      ]
    ]
