-- Cliques of a picture as cliques of the graph that it shows, and back.
use Rattle.std.proofs.Common.{◌≡◌, ℕ, ◌<◌, ◌≤◌, Bool, true, ◌&&◌, eqb, ltb, List, length, get_or, sym, refl, ap, ◌∙◌, inl, inr, arith}
use Rattle.std.proofs.lemmas.Bool.{cases_eq, eqb-true, eq-eqb, ltb-true, lt-ltb, and_parts, and_from}
use Rattle.finite.specs.Finite.{count, has}
use Rattle.finite.specs.Masks.{bit}
use Rattle.finite.specs.Supports.{Within}
use Rattle.finite.proofs.Counts.{any_true, has_true, has_at, count_le}
use Rattle.finite.proofs.Pigeons.{count_inject, any_from}
use Rattle.graph.specs.Graph.{Graph, held, clash}
use Rattle.graph.specs.Cliques.{Clique}
use Rattle.graph.proofs.Graphs.{held_below}
use Rattle.pictures.specs.Pictures.{Draws, joined, paired, places}
use Rattle.pictures.specs.Pictures as pictures
use Rattle.pictures.specs.declared.shape.Picture.{Picture}
use Rattle.searching.specs.Answers.{AtMost, Largest}
use Rattle.climbing.specs.Climbs.{AtMostAmong, LargestAmong, picked}
use Rattle.climbing.proofs.Later.{Apart, differ, count_true}

pub picked_some : (q : List ℕ) (k c : ℕ) → picked q k c ≡ true → (i : ℕ) × (i < length q) × (bit k i ≡ true) × (get_or q i 0 ≡ c)
unfolding picked
picked_some q k c t =
    let w = any_true (λ i. bit k i && eqb (get_or q i 0) c) (length q) t in
    let h = and_parts (bit k w.0) (eqb (get_or q w.0 0) c) w.2 in
    (w.0, w.1, h.0, eqb-true (get_or q w.0 0) c h.1)

pub picked_from : (q : List ℕ) (k i : ℕ) → i < length q → bit k i ≡ true → picked q k (get_or q i 0) ≡ true
unfolding picked
picked_from q k i l y =
    any_from (λ j. bit k j && eqb (get_or q j 0) (get_or q i 0)) (length q) i l (and_from (bit k i) (eqb (get_or q i 0) (get_or q i 0)) y (eq-eqb (get_or q i 0) (get_or q i 0) refl))

-- no more numbers are picked than the list has
pub picked_few : (q : List ℕ) (k n : ℕ) → count (picked q k) n ≤ length q
picked_few q k n =
    let a = count_inject (picked q k) (bit k) (λ c i. get_or q i 0 ≡ c) n (length q) (λ c l y. picked_some q k c y) (λ a c b _ _ _ _ x y. sym x ∙ y) in
    let b = count_le (bit k) (length q) in
    omega arith

-- a clique inside a list has no more members than the list
pub most_listed : (g : Graph) (q : List ℕ) → AtMostAmong g (has q) (length q)
most_listed g q L k w =
    let a = count_inject L (λ _. true) (λ c i. get_or q i 0 ≡ c) g.size (length q) (λ c l y. let h = has_true q c (w c y) in (h.0, h.1, refl, h.2)) (λ a c b _ _ _ _ x y. sym x ∙ y) in
    let b = count_true (length q) in
    omega arith

module _ (g : Graph) (q : List ℕ) (pic : Picture) (m : ℕ) (dr : Draws g q pic) (apart : Apart q) (hd : (c : ℕ) → has q c ≡ true → held g c ≡ true) (full : (i : ℕ) → bit m i ≡ ltb i (length q)) where
  -- the places of a set of vertices
  shown : (ℕ → Bool) → ℕ → Bool
  shown L i = ltb i (length q) && L (get_or q i 0)

  shown_parts : (L : ℕ → Bool) (i : ℕ) → shown L i ≡ true → (i < length q) × (L (get_or q i 0) ≡ true)
  unfolding shown
  shown_parts L i t =
      let h = and_parts (ltb i (length q)) (L (get_or q i 0)) t in (ltb-true i (length q) h.0, h.1)

  shown_from : (L : ℕ → Bool) (i : ℕ) → i < length q → L (get_or q i 0) ≡ true → shown L i ≡ true
  unfolding shown
  shown_from L i l y = and_from (ltb i (length q)) (L (get_or q i 0)) (lt-ltb i (length q) l) y

  drawn : (i j : ℕ) → i < length q → j < length q → clash g (get_or q i 0) (get_or q j 0) ≡ true → joined pic i j ≡ true
  drawn i j l h t =
      dr.joins i j ∙ and_from (ltb i (length q)) (ltb j (length q) && paired g q i j) (lt-ltb i (length q) l) (and_from (ltb j (length q)) (paired g q i j) (lt-ltb j (length q) h) t)

  clique_shown : (L : ℕ → Bool) → Clique g L → pictures.Clique pic m (shown L)
  clique_shown L k = record {
    placed = λ i t. omega (arith, dr.size, (shown_parts L i t).0);
    inside = λ i t. full i ∙ lt-ltb i (length q) (shown_parts L i t).0;
    joins = λ i j t u ne.
        let a = shown_parts L i t in
        let b = shown_parts L j u in
        drawn i j a.0 b.0 (k.joins (get_or q i 0) (get_or q j 0) a.1 b.1 (differ q apart i j a.0 b.0 ne));
  }

  count_shown : (L : ℕ → Bool) → Within L (has q) → count L g.size ≤ count (shown L) 64
  count_shown L w =
      count_inject L (shown L) (λ c i. get_or q i 0 ≡ c) g.size 64
      (λ c l y. let h = has_true q c (w c y) in (h.0, omega (arith, h.1, dr.few), shown_from L h.0 h.1 (ap L h.2 ∙ y), h.2))
      (λ a c b _ _ _ _ x y. sym x ∙ y)

  pub most_drawn : (n : ℕ) → AtMost pic m n → AtMostAmong g (has q) n
  most_drawn n h L k w = let x = count_shown L w in let y = h (shown L) (clique_shown L k) in omega arith

  module _ (k : ℕ) (kk : pictures.Clique pic m (bit k)) where
    inside_list : (i : ℕ) → bit k i ≡ true → i < length q
    inside_list i t = ltb-true i (length q) (sym (full i) ∙ kk.inside i t)

    within_list : (c : ℕ) → picked q k c ≡ true → has q c ≡ true
    within_list c t = let h = picked_some q k c t in ap (has q) (sym h.3) ∙ has_at q h.0 h.1

    clique_picked : Clique g (picked q k)
    clique_picked = record {
      members = λ c t. hd c (within_list c t);
      joins = λ a b t u ne.
          let x = picked_some q k a t in
          let y = picked_some q k b u in
          let ni : x.0 ≡ y.0 → ⊥ = λ e. ne (sym x.3 ∙ ap (λ (i : ℕ). get_or q i 0) e ∙ y.3) in
          let j = sym (dr.joins x.0 y.0) ∙ kk.joins x.0 y.0 x.2 y.2 ni in
          let z = (and_parts (ltb y.0 (length q)) (paired g q x.0 y.0) (and_parts (ltb x.0 (length q)) (ltb y.0 (length q) && paired g q x.0 y.0) j).1).1 in
          ap (λ (i : ℕ). clash g i b) (sym x.3) ∙ ap (clash g (get_or q x.0 0)) (sym y.3) ∙ z;
    }

    count_picked : count (picked q k) g.size ≡ count (bit k) 64
    count_picked =
        let a = count_inject (picked q k) (bit k) (λ c i. get_or q i 0 ≡ c) g.size 64 (λ c l y. let h = picked_some q k c y in (h.0, omega (arith, h.1, dr.few), h.2, h.3)) (λ a c b _ _ _ _ x y. sym x ∙ y) in
        let b = count_inject (bit k) (picked q k) (λ i c. (i < length q) × (get_or q i 0 ≡ c)) 64 g.size
        (λ i l y. let li = inside_list i y in (get_or q i 0, held_below g (get_or q i 0) (hd (get_or q i 0) (has_at q i li)), picked_from q k i li y, (li, refl)))
        (λ a c b _ _ _ _ x y. elim (cases_eq a c) [ inl z ↦ z | inr ne ↦ absurd (differ q apart a c x.0 y.0 ne (x.1 ∙ sym y.1)) ]) in
        omega arith

  pub largest_drawn : (k : ℕ) → Largest pic m k → LargestAmong g (has q) (picked q k) (count (bit k) 64)
  largest_drawn k lg = record {
    clique = clique_picked k lg.clique;
    within = within_list k lg.clique;
    many = count_picked k lg.clique;
    most = most_drawn (count (bit k) 64) lg.most;
  }
