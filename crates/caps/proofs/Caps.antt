-- What the bound leaves in the buffers, case by case.
use Rattle.std.proofs.Common.{◌≡◌, ℕ, ◌+◌, ◌-◌, ◌<◌, ◌≤◌, min, Bool, true, cond, ltb, List, length, get_or, take, None, sym, refl, ap, ◌∙◌, subst, inl, inr, arith}
use Rattle.std.proofs.lemmas.Bool.{cases_Bool, cases_lt, both_ways, lt-ltb, le-ltb, cond-true, cond-false}
use Rattle.std.proofs.lemmas.Bool.Decides.{nat_tests}
use Rattle.finite.proofs.Counts.{count_pos}
use Rattle.graph.specs.declared.edge.Edge.{Edge}
use Rattle.graph.specs.Graph.{Graph, Lawful, held, vertices}
use Rattle.graph.specs.Edges.{edge_list, Rising}
use Rattle.graph.specs.Degeneracy.{IsDegeneracy}
use Rattle.graph.proofs.Graphs.{held_below, clash_left, inside_le}
use Rattle.forms.proofs.Edges.{edge_list_rising, edge_list_joins}
use Rattle.supports.specs.Peel.{alive}
use Rattle.supports.specs.Levels.{Deepest, DeepestIn}
use Rattle.supports.proofs.Peels.{alive_yes, largest_of_same}
use Rattle.cohesion.specs.Community.{CommunityOf, IsCommunityNumber}
use Rattle.cohesion.specs.Common.{edge_at, linked, common, Listing}
use Rattle.cohesion.proofs.Places.{ends_own, place_joins, place_one}
use Rattle.cohesion.proofs.Links.{linked_true, linked_from, common_le}
use Rattle.cohesion.proofs.Bridge.{everywhere, largest_community, deepest_number, number_one}
use Rattle.caps.specs.Cap.{edge_count, IsCap, EdgesIn, CappedIn}

pub degeneracy_le : (g : Graph) (d : ℕ) → IsDegeneracy g d → d ≤ g.size
degeneracy_le g d h = h.least g.size (λ s w a y. (a, y, inside_le g s a))

-- the first places are wiped
abbrev pub Cleared : ℕ → List ℕ → List ℕ → Type 0
Cleared n before after = (k : ℕ) → get_or after k 0 ≡ cond (ltb k n) 0 (get_or before k 0)

vertex_pos : (g : Graph) (a : ℕ) → held g a ≡ true → 0 < vertices g
unfolding vertices
vertex_pos g a y = count_pos (held g) g.size a (held_below g a y) y

-- without vertices there are no edges
pub none_listed : (g : Graph) → Lawful g → vertices g ≡ 0 → edge_count g ≡ 0
none_listed g lw v =
    elim (cases_lt 0 (edge_count g)) [
      | inr l ↦ omega arith
      | inl l ↦ let e = edge_at (edge_list g) 0 in
          let j = place_joins (edge_list g) e.a e.b 0 l (ends_own e) in
          absurd (omega (arith, vertex_pos g e.a (clash_left g e.a e.b (sym (edge_list_joins g lw e.a e.b) ∙ j))))
    ]

pub cap_empty : (g : Graph) → Lawful g → vertices g ≡ 0 → IsCap g 0
cap_empty g lw v = record { empty = λ e. refl; plain = λ l e. absurd (omega arith); edged = λ l. absurd (omega (arith, none_listed g lw v)) }

pub cap_plain : (g : Graph) → 0 < vertices g → edge_count g ≡ 0 → IsCap g 1
cap_plain g v e = record { empty = λ z. absurd (omega arith); plain = λ l z. refl; edged = λ l. absurd (omega arith) }

module _ (g : Graph) (lw : Lawful g) (edges edges' : List Edge) (E : EdgesIn g edges edges') where
  pub capped_none : (living marks marks' : List ℕ) (n r : ℕ) → n ≡ g.size → edge_count g ≡ 0 → IsCap g r → Cleared n marks marks' → CappedIn g edges edges' living living marks marks' r
  capped_none living marks marks' n r en none is wiped =
      record {
        cap = is;
        listed = E;
        community = λ k e q h c l. absurd (omega arith);
        living_rest = λ c l. refl;
        clear = λ k l. wiped k ∙ cond-true (ltb k n) 0 (get_or marks k 0) (lt-ltb k n (omega arith));
        marks_rest = λ k l. wiped k ∙ cond-false (ltb k n) 0 (get_or marks k 0) (le-ltb k n (omega arith));
      }

  -- the list that was written
  pub listing : (list : List Edge) (n : ℕ) → list ≡ edge_list g → n ≡ g.size → Listing n list
  listing list n e en =
      record { small = omega (arith, lw.small); rising = subst (λ v. Rising n None v) (sym e) (subst (λ v. Rising v None (edge_list g)) (sym en) (edge_list_rising g lw)) }

  module _ (living ones living' : List ℕ) (k : ℕ) (full : (c : ℕ) → get_or ones c 0 ≡ cond (ltb c (edge_count g)) 1 (get_or living c 0)) (D : DeepestIn (common g.size (edge_list g)) (edge_count g) ones living' k) (pos : 0 < edge_count g) where
    all_ones : (c : ℕ) → alive (edge_count g) ones c ≡ everywhere (edge_count g) c
    unfolding alive
    all_ones c = let h = full c in grind (arith, nat_tests)

    deep : Deepest (common g.size (edge_list g)) (everywhere (edge_count g)) (alive (edge_count g) living') k
    deep =
        let d = D.deepest in
        record {
          level = largest_of_same (common g.size (edge_list g)) k (alive (edge_count g) ones) (everywhere (edge_count g)) (alive (edge_count g) living') all_ones d.level;
          most = λ t u h c y. d.most t u (record { within = λ b z. all_ones b ∙ h.within b z; each = h.each }) c y;
          some = λ c y. d.some c (all_ones c ∙ y);
        }

    pub number_is : IsCommunityNumber g k
    number_is = deepest_number g (edge_list g) (edge_list_joins g lw) k (alive (edge_count g) living') pos deep

    -- an edge is joined by a living one exactly when it lives
    own_link : (c : ℕ) → c < edge_count g → linked (edge_list g) (alive (edge_count g) living') (edge_at (edge_list g) c).a (edge_at (edge_list g) c).b ≡ alive (edge_count g) living' c
    own_link c l =
        let e = edge_at (edge_list g) c in
        let s = alive (edge_count g) living' in
        elim (cases_Bool (s c)) [
          | inl y ↦ linked_from (edge_list g) s e.a e.b c l y (ends_own e) ∙ sym y
          | inr y ↦ elim (cases_Bool (linked (edge_list g) s e.a e.b)) [
            | inr z ↦ z ∙ sym y
            | inl z ↦ absurd (let w = linked_true (edge_list g) s e.a e.b z in
                both_ways (s c) y (ap s (sym (place_one g.size (edge_list g) (edge_list_rising g lw) w.place c e.a e.b w.within l w.joined (ends_own e))) ∙ w.member))
          ]
        ]

    byte : (c : ℕ) → c < edge_count g → get_or living' c 0 ≡ cond (alive (edge_count g) living' c) 1 0
    unfolding alive
    byte c l =
        let low = D.lower c in
        let h = full c in
        let a = lt-ltb c (edge_count g) l in
        let one : get_or ones c 0 ≡ 1 = h ∙ cond-true (ltb c (edge_count g)) 1 (get_or living c 0) a in
        elim (cases_lt 0 (get_or living' c 0)) [
          | inl p ↦ let q : get_or living' c 0 ≡ 1 = omega arith in grind (arith, nat_tests)
          | inr p ↦ let q : get_or living' c 0 ≡ 0 = omega arith in grind (arith, nat_tests)
        ]

    pub capped_edged : (marks mid marks' : List ℕ) (n d r : ℕ) → n ≡ g.size → IsDegeneracy g d → Cleared n marks mid → Cleared n mid marks' → r ≡ min (d + 1) (k + 2) → CappedIn g edges edges' living living' marks marks' r
    capped_edged marks mid marks' n d r en deg wiped again least =
        let comm = largest_community g (edge_list g) (edge_list_joins g lw) k (alive (edge_count g) living') deep.level in
        record {
          cap = record { empty = λ v. absurd (omega (arith, none_listed g lw v)); plain = λ l e. absurd (omega arith); edged = λ l. record { degeneracy = d; number = k; is_degeneracy = deg; is_number = number_is; smaller = least } };
          listed = E;
          community = λ j e q h c l. byte c l ∙ ap (λ b. cond b 1 0) (sym (own_link c l) ∙ same j e (number_one g k j number_is q) h comm (edge_at (edge_list g) c).a (edge_at (edge_list g) c).b);
          living_rest = λ c l. D.rest c l ∙ full c ∙ cond-false (ltb c (edge_count g)) 1 (get_or living c 0) (le-ltb c (edge_count g) l);
          clear = λ i l. again i ∙ cond-true (ltb i n) 0 (get_or mid i 0) (lt-ltb i n (omega arith));
          marks_rest = λ i l. again i ∙ cond-false (ltb i n) 0 (get_or mid i 0) (le-ltb i n (omega arith)) ∙ wiped i ∙ cond-false (ltb i n) 0 (get_or marks i 0) (le-ltb i n (omega arith));
        }
      where
        same : (j : ℕ) (e : ℕ → ℕ → Bool) → k ≡ j → CommunityOf g j e → CommunityOf g k (linked (edge_list g) (alive (edge_count g) living')) → (a b : ℕ) → linked (edge_list g) (alive (edge_count g) living') a b ≡ e a b
        same j e i h comm a b =
            let h' : CommunityOf g k e = subst (λ v. CommunityOf g v e) (sym i) h in
            elim (cases_Bool (linked (edge_list g) (alive (edge_count g) living') a b)) [
              | inl y ↦ y ∙ sym (h'.covers (linked (edge_list g) (alive (edge_count g) living')) comm.tight a b y)
              | inr y ↦ elim (cases_Bool (e a b)) [
                | inr z ↦ y ∙ sym z
                | inl z ↦ absurd (both_ways (linked (edge_list g) (alive (edge_count g) living') a b) y (comm.covers e h'.tight a b z))
              ]
            ]

-- the list that was peeled is the list of edges
pub written : (g : Graph) (edges edges' : List Edge) (m : ℕ) → m ≡ edge_count g → EdgesIn g edges edges' → take (m - 0) edges' ≡ edge_list g
written g edges edges' m e E = let z : m - 0 ≡ edge_count g = omega arith in ap (λ v. take v edges') z ∙ E.edges

pub deepest_of : (g : Graph) (list : List Edge) (n : ℕ) (ones living' : List ℕ) (k : ℕ) → list ≡ edge_list g → n ≡ g.size → DeepestIn (common n list) (length list) ones living' k → DeepestIn (common g.size (edge_list g)) (edge_count g) ones living' k
deepest_of g list n ones living' k e en d =
    subst (λ v. DeepestIn (common v (edge_list g)) (edge_count g) ones living' k) en (subst (λ (v : List Edge). DeepestIn (common n v) (length v) ones living' k) e d)

pub number_le : (g : Graph) (list : List Edge) (n : ℕ) (living ones living' : List ℕ) (m k : ℕ) → m ≡ length list → 0 < m → ((c : ℕ) → get_or ones c 0 ≡ cond (ltb c m) 1 (get_or living c 0)) → DeepestIn (common n list) (length list) ones living' k → k ≤ n
number_le g list n living ones living' m k e pos full d =
    let first = alive_yes (length list) ones 0 (omega arith) (full 0 ∙ cond-true (ltb 0 m) 1 (get_or living 0 0) (lt-ltb 0 m pos)) in
    let w = d.deepest.some 0 first in
    omega (arith, d.deepest.level.supported.each w.0 w.1, common_le n list (alive (length list) living') w.0)
