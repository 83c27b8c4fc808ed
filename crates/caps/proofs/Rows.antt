-- Listing the edges of a graph, neighbour by neighbour.
use Rattle.std.proofs.Common.{◌≡◌, ℕ, zero, suc, ◌+◌, ◌*◌, ◌<◌, ◌≤◌, Bool, true, false, cond, ◌&&◌, ◌||◌, eqb, ltb, List, [], ◌∷◌, ◌++◌, map, length, sym, refl, ap, ◌∙◌, inl, inr, add-one, arith}
use Rattle.std.proofs.lemmas.List.{length-append, length-map, map-append, append-nil, length_push}
use Rattle.std.proofs.lemmas.Bool.{cases_Bool, cases_eq, cases_lt, and_parts, or_right, lt-ltb, le-ltb, ltb-true, eq-eqb, ne_eqb}
use Rattle.std.proofs.lemmas.Bool.Decides.{nat_tests}
use Rattle.finite.specs.Finite.{count, members}
use Rattle.finite.proofs.Counts.{count_le, count_mono}
use Rattle.finite.proofs.Members.{length_members, members_same}
use Rattle.finite.proofs.Rising.{count_up}
use Rattle.graph.specs.declared.edge.Edge.{Edge}
use Rattle.graph.specs.Graph.{Graph, clash, inside, degree}
use Rattle.graph.specs.Edges.{edge, edges_at, edges_below}
use Rattle.cohesion.proofs.Near.{near, AtRank, near_none, near_yes, near_no, near_all}

members_none : (p : ℕ → Bool) (n : ℕ) → ((c : ℕ) → p c ≡ false) → members p n ≡ []
unfolding members
members_none p zero f = refl
members_none p (suc n) f = ap (λ (b : Bool). members p n ++ cond b (n ∷ []) []) (f n) ∙ append-nil (members p n) ∙ members_none p n f

-- a member above all others comes last
members_push : (p q : ℕ → Bool) (b n : ℕ) → b < n → ((c : ℕ) → p c ≡ true → c < b) → ((c : ℕ) → q c ≡ (p c || eqb b c)) → members q n ≡ members p n ++ b ∷ []
unfolding members
members_push p q b zero l f e = absurd (omega arith)
members_push p q b (suc n) l f e =
    let pn : (b ≤ n) → p n ≡ false = λ h. elim (cases_Bool (p n)) [ inr y ↦ y | inl y ↦ absurd (omega (arith, f n y)) ] in
    elim (cases_eq b n) [
      | inl i ↦
          let qn : q n ≡ true = e n ∙ or_right (p n) (eqb b n) (eq-eqb b n i) in
          let pf = pn (omega arith) in
          let s = members_same q p n (λ c h. e c ∙ (let z = ne_eqb b c (omega arith) in grind (arith, nat_tests))) in
          ap (λ (v : Bool). members q n ++ cond v (n ∷ []) []) qn ∙ ap (λ (v : List ℕ). v ++ n ∷ []) s ∙ ap (λ (v : ℕ). members p n ++ v ∷ []) (sym i) ∙ sym (ap (λ (v : List ℕ). v ++ b ∷ []) (ap (λ (v : Bool). members p n ++ cond v (n ∷ []) []) pf ∙ append-nil (members p n)))
      | inr i ↦
          let pf = pn (omega arith) in
          let qn : q n ≡ false = e n ∙ (let z = ne_eqb b n i in grind (arith, nat_tests)) in
          ap (λ (v : Bool). members q n ++ cond v (n ∷ []) []) qn ∙ append-nil (members q n) ∙ members_push p q b n (omega arith) f e ∙ sym (ap (λ (v : List ℕ). v ++ b ∷ []) (ap (λ (v : Bool). members p n ++ cond v (n ∷ []) []) pf ∙ append-nil (members p n)))
    ]

-- the edges from a to its later neighbours of rank below i
unfoldable pub met_edges : Graph → ℕ → ℕ → List Edge
met_edges g a i = map (edge a) (members (near g (ltb a) a i) g.size)

pub met_none : (g : Graph) (a : ℕ) → met_edges g a 0 ≡ []
unfolding met_edges
met_none g a = ap (map (edge a)) (members_none (near g (ltb a) a 0) g.size (near_none g (ltb a) a))

-- those of lower rank are smaller
near_lower : (g : Graph) (a i b c : ℕ) → AtRank g a i b → near g (ltb a) a i c ≡ true → c < b
unfolding near
near_lower g a i b c r y =
    let p = and_parts (clash g a c) (ltb (count (clash g a) c) i && ltb a c) y in
    let q = ltb-true (count (clash g a) c) i (and_parts (ltb (count (clash g a) c) i) (ltb a c) p.1).0 in
    elim (cases_lt c b) [ inl l ↦ l | inr l ↦ absurd (omega (arith, count_up (clash g a) b c l, r.2)) ]

pub met_yes : (g : Graph) (a i b : ℕ) → AtRank g a i b → a < b → met_edges g a (i + 1) ≡ met_edges g a i ++ edge a b ∷ []
unfolding met_edges
met_yes g a i b r l =
    ap (map (edge a)) (members_push (near g (ltb a) a i) (near g (ltb a) a (i + 1)) b g.size r.0 (λ c y. near_lower g a i b c r y) (near_yes g (ltb a) a i b r (lt-ltb a b l))) ∙ map-append (edge a) (members (near g (ltb a) a i) g.size) (b ∷ [])

pub met_no : (g : Graph) (a i b : ℕ) → AtRank g a i b → b ≤ a → met_edges g a (i + 1) ≡ met_edges g a i
unfolding met_edges
met_no g a i b r l =
    ap (map (edge a)) (members_same (near g (ltb a) a (i + 1)) (near g (ltb a) a i) g.size (λ c h. near_no g (ltb a) a i b r (le-ltb a b l) c))

pub met_all : (g : Graph) (a i : ℕ) → i ≡ degree g a → met_edges g a i ≡ edges_at g a
unfolding met_edges
met_all g a i e =
    ap (map (edge a)) (members_same (near g (ltb a) a i) (λ b. ltb a b && clash g a b) g.size (λ c h. near_all g (ltb a) a i e c))

length_met : (g : Graph) (a i : ℕ) → length (met_edges g a i) ≡ count (near g (ltb a) a i) g.size
unfolding met_edges
length_met g a i = length-map (members (near g (ltb a) a i) g.size) (edge a) ∙ length_members (near g (ltb a) a i) g.size

-- those met are among all
pub met_le : (g : Graph) (a i : ℕ) → length (met_edges g a i) ≤ length (edges_at g a)
unfolding near
met_le g a i =
    let e = length-map (members (λ b. ltb a b && clash g a b) g.size) (edge a) ∙ length_members (λ b. ltb a b && clash g a b) g.size in
    omega (arith, length_met g a i, count_mono (near g (ltb a) a i) (λ b. ltb a b && clash g a b) g.size (λ c l y. grind (arith, nat_tests)))

pub met_room : (g : Graph) (a i b : ℕ) → AtRank g a i b → a < b → length (met_edges g a i) < length (edges_at g a)
met_room g a i b r l =
    omega (arith, met_le g a (i + 1), ap length (met_yes g a i b r l), length_push (met_edges g a i) (edge a b))

pub row_length : (g : Graph) (a : ℕ) → length (edges_at g a) ≡ inside g (ltb a) a
unfolding inside
row_length g a = length-map (members (λ b. ltb a b && clash g a b) g.size) (edge a) ∙ length_members (λ b. ltb a b && clash g a b) g.size

pub below_none : (g : Graph) → edges_below g 0 ≡ []
unfolding edges_below
below_none g = refl

pub below_more : (g : Graph) (a : ℕ) → edges_below g (a + 1) ≡ edges_below g a ++ edges_at g a
unfolding edges_below
below_more g a = rw add-one refl

pub below_length : (g : Graph) (a : ℕ) → length (edges_below g (a + 1)) ≡ length (edges_below g a) + length (edges_at g a)
below_length g a = ap length (below_more g a) ∙ length-append (edges_below g a) (edges_at g a)

pub below_mono : (g : Graph) (a c : ℕ) → a ≤ c → length (edges_below g a) ≤ length (edges_below g c)
unfolding edges_below
below_mono g a zero l = omega (arith, ap (λ v. length (edges_below g v)) (let e : a ≡ 0 = omega arith in e))
below_mono g a (suc c) l =
    elim (cases_eq a (suc c)) [
      | inl e ↦ omega (arith, ap (λ v. length (edges_below g v)) e)
      | inr e ↦ omega (arith, below_mono g a c (omega arith), length-append (edges_below g c) (edges_at g c))
    ]

pub below_le : (g : Graph) (a : ℕ) → g.size < 1025 → length (edges_below g a) ≤ 1024 * a
unfolding edges_below inside
below_le g zero l = omega arith
below_le g (suc a) l = omega (arith, below_le g a l, length-append (edges_below g a) (edges_at g a), row_length g a, count_le (λ b. ltb a b && clash g a b) g.size)
