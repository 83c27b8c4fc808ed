-- The edges of a graph rise, and join the pairs that clash.
use Rattle.std.proofs.Common.{◌≡◌, ℕ, zero, suc, ◌<◌, ◌≤◌, Bool, true, false, cond, ◌&&◌, ◌||◌, eqb, ltb, ◌⊎◌, List, [], ◌∷◌, ◌++◌, map, Some, None, Option, sym, refl, ap, ◌∙◌, inl, inr, arith}
use Rattle.std.proofs.lemmas.List.{append-nil, map-append}
use Rattle.std.proofs.lemmas.Bool.{false≢true, cases_Bool, cases_eq, cases_order, and_parts, and_from, eqb-true, lt-ltb, or_cases, or_left, or_right, both_ways}
use Rattle.std.proofs.lemmas.Bool.Decides.{nat_tests}
use Rattle.finite.specs.Finite.{members}
use Rattle.graph.specs.declared.edge.Edge.{Edge}
use Rattle.graph.proofs.Edges.{last_after}
use Rattle.graph.specs.Graph.{Graph, Lawful, clash}
use Rattle.graph.specs.Edges.{edge, above, Rising, ends, joins, edges_at, edges_below, edge_list}
use Rattle.graph.proofs.Graphs.{held_below, clash_left, clash_right}

pub last_append : (o : Option Edge) (es fs : List Edge) → last_after o (es ++ fs) ≡ last_after (last_after o es) fs
last_append o [] fs = refl
last_append o (e ∷ es) fs = last_append (Some e) es fs

pub rising_append : (n : ℕ) (o : Option Edge) (es fs : List Edge) → Rising n o es → Rising n (last_after o es) fs → Rising n o (es ++ fs)
rising_append n o [] fs r t = t
rising_append n o (e ∷ es) fs r t = (r.0, r.1, r.2, rising_append n (Some e) es fs r.3 t)

pub above_up : (o : Option Edge) (a m : ℕ) → above o (edge a m) ≡ true → above o (edge a (suc m)) ≡ true
above_up None a m h = refl
above_up (Some e) a m h = grind (arith, nat_tests)

pub above_next : (o : Option Edge) (a m : ℕ) → above o (edge a m) ≡ true → above o (edge (suc a) 0) ≡ true
above_next None a m h = refl
above_next (Some e) a m h = grind (arith, nat_tests)

-- the list rises behind o, and what comes next may be f
pub record Rises (n : ℕ) (o : Option Edge) (es : List Edge) (f : Edge) : Type 0 where
  pub rising : Rising n o es
  pub next : above (last_after o es) f ≡ true

pub at_rises : (n a : ℕ) (q : ℕ → Bool) (o : Option Edge) → ((b : ℕ) → q b ≡ true → a < b) → above o (edge a 0) ≡ true → (m : ℕ) → m ≤ n → Rises n o (map (edge a) (members q m)) (edge a m)
unfolding members
at_rises n a q o f h zero l = record { rising = tt; next = h }
at_rises n a q o f h (suc m) l =
    let ih = at_rises n a q o f h m (omega arith) in
    elim (cases_Bool (q m)) [
      | inl y ↦ rw (y, map-append) (record {
        rising = rising_append n o (map (edge a) (members q m)) (edge a m ∷ []) ih.rising (f m y, l, ih.next, tt);
        next = rw last_append (grind (arith, nat_tests));
      })
      | inr y ↦ rw (y, append-nil) (record { rising = ih.rising; next = above_up (last_after o (map (edge a) (members q m))) a m ih.next })
    ]

pub below_rises : (g : Graph) (m : ℕ) → m ≤ g.size → Rises g.size None (edges_below g m) (edge m 0)
unfolding edges_below
below_rises g zero l = record { rising = tt; next = refl }
below_rises g (suc m) l =
    let ih = below_rises g m (omega arith) in
    let r = at_rises g.size m (λ b. ltb m b && clash g m b) (last_after None (edges_below g m)) (λ b y. grind (arith, nat_tests)) ih.next g.size (omega arith) in
    record {
      rising = rising_append g.size None (edges_below g m) (edges_at g m) ih.rising r.rising;
      next = rw last_append (above_next (last_after (last_after None (edges_below g m)) (edges_at g m)) m g.size r.next);
    }

pub edge_list_rising : (g : Graph) → Lawful g → Rising g.size None (edge_list g)
edge_list_rising g w = (below_rises g g.size (omega arith)).rising

pub joins_none : (a b : ℕ) → joins [] a b ≡ false
unfolding joins
joins_none a b = refl

pub joins_more : (e : Edge) (es : List Edge) (a b : ℕ) → joins (e ∷ es) a b ≡ (ends e a b || joins es a b)
unfolding joins
joins_more e es a b = refl

pub joins_append : (es fs : List Edge) (a b : ℕ) → joins (es ++ fs) a b ≡ (joins es a b || joins fs a b)
unfolding joins
joins_append [] fs a b = refl
joins_append (e ∷ es) fs a b = let h = joins_append es fs a b in grind (arith, nat_tests)

pub joins_both : (es : List Edge) (a b : ℕ) → joins es a b ≡ joins es b a
unfolding joins
joins_both [] a b = refl
joins_both (e ∷ es) a b = let h = joins_both es a b in grind (arith, nat_tests)

-- what the edges with smaller end c join
pub at_true : (c : ℕ) (q : ℕ → Bool) (m a b : ℕ) → joins (map (edge c) (members q m)) a b ≡ true → ((a ≡ c) × (q b ≡ true)) ⊎ ((b ≡ c) × (q a ≡ true))
unfolding members
at_true c q zero a b h = absurd (false≢true (sym (joins_none a b) ∙ h))
at_true c q (suc m) a b h =
    elim (cases_Bool (q m)) [
      | inl y ↦ let k = rw (y, map-append, joins_append, joins_more, joins_none) at h in
          elim (or_cases (joins (map (edge c) (members q m)) a b) (ends (edge c m) a b || false) k) [
            | inl z ↦ at_true c q m a b z
            | inr z ↦ elim (or_cases (ends (edge c m) a b) false z) [
              | inl t ↦ elim (or_cases (eqb a c && eqb b m) (eqb a m && eqb b c) t) [
                | inl u ↦ let v = and_parts (eqb a c) (eqb b m) u in inl (eqb-true a c v.0, ap q (eqb-true b m v.1) ∙ y)
                | inr u ↦ let v = and_parts (eqb a m) (eqb b c) u in inr (eqb-true b c v.1, ap q (eqb-true a m v.0) ∙ y)
              ]
              | inr t ↦ absurd (false≢true t)
            ]
          ]
      | inr y ↦ at_true c q m a b (rw (y, append-nil) at h)
    ]

pub at_found : (c : ℕ) (q : ℕ → Bool) (m b : ℕ) → b < m → q b ≡ true → joins (map (edge c) (members q m)) c b ≡ true
unfolding members
at_found c q zero b l y = absurd (omega arith)
at_found c q (suc m) b l y =
    elim (cases_eq b m) [
      | inl e ↦ let z : q m ≡ true = ap q (sym e) ∙ y in
          rw (z, map-append, joins_append, joins_more, joins_none) (or_right (joins (map (edge c) (members q m)) c b) (ends (edge c m) c b || false) (grind (arith, nat_tests)))
      | inr e ↦ rw (map-append, joins_append) (or_left (joins (map (edge c) (members q m)) c b) (joins (map (edge c) (cond (q m) (m ∷ []) [])) c b) (at_found c q m b (omega arith) y))
    ]

pub below_true : (g : Graph) → Lawful g → (m a b : ℕ) → joins (edges_below g m) a b ≡ true → clash g a b ≡ true
unfolding edges_below
below_true g w zero a b h = absurd (false≢true (sym (joins_none a b) ∙ h))
below_true g w (suc m) a b h =
    elim (or_cases (joins (edges_below g m) a b) (joins (edges_at g m) a b) (sym (joins_append (edges_below g m) (edges_at g m) a b) ∙ h)) [
      | inl y ↦ below_true g w m a b y
      | inr y ↦ elim (at_true m (λ c. ltb m c && clash g m c) g.size a b y) [
        | inl z ↦ ap (λ (v : ℕ). clash g v b) z.0 ∙ (and_parts (ltb m b) (clash g m b) z.1).1
        | inr z ↦ w.both a b ∙ ap (λ (v : ℕ). clash g v a) z.0 ∙ (and_parts (ltb m a) (clash g m a) z.1).1
      ]
    ]

pub below_found : (g : Graph) (m a b : ℕ) → a < m → a < b → clash g a b ≡ true → joins (edges_below g m) a b ≡ true
unfolding edges_below
below_found g zero a b l k h = absurd (omega arith)
below_found g (suc m) a b l k h =
    joins_append (edges_below g m) (edges_at g m) a b ∙
    elim (cases_eq a m) [
      | inl e ↦ let z : clash g m b ≡ true = ap (λ (v : ℕ). clash g v b) (sym e) ∙ h in
          let f = at_found m (λ c. ltb m c && clash g m c) g.size b (held_below g b (clash_right g a b h)) (and_from (ltb m b) (clash g m b) (lt-ltb m b (omega arith)) z) in
          or_right (joins (edges_below g m) a b) (joins (edges_at g m) a b) (ap (λ (v : ℕ). joins (edges_at g m) v b) e ∙ f)
      | inr e ↦ or_left (joins (edges_below g m) a b) (joins (edges_at g m) a b) (below_found g m a b (omega arith) k h)
    ]

pub edge_list_found : (g : Graph) → Lawful g → (a b : ℕ) → clash g a b ≡ true → joins (edge_list g) a b ≡ true
edge_list_found g w a b h =
    elim (cases_order a b) [
      | inl e ↦ absurd (both_ways (clash g a a) (w.never a) (ap (clash g a) e ∙ h))
      | inr o ↦ elim o [
        | inl l ↦ below_found g g.size a b (held_below g a (clash_left g a b h)) l h
        | inr l ↦ joins_both (edge_list g) a b ∙ below_found g g.size b a (held_below g b (clash_right g a b h)) l (w.both b a ∙ h)
      ]
    ]

pub edge_list_joins : (g : Graph) → Lawful g → (a b : ℕ) → joins (edge_list g) a b ≡ clash g a b
edge_list_joins g w a b =
    elim (cases_Bool (clash g a b)) [
      | inl y ↦ edge_list_found g w a b y ∙ sym y
      | inr y ↦ elim (cases_Bool (joins (edge_list g) a b)) [
        | inl z ↦ absurd (both_ways (clash g a b) y (below_true g w g.size a b z))
        | inr z ↦ z ∙ sym y
      ]
    ]
