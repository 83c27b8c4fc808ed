-- The clique number of a graph, by the later neighbours of its vertices.
use Rattle.std.proofs.Common.{◌≡◌, ℕ, zero, suc, ◌+◌, ◌-◌, ◌<◌, ◌≤◌, Bool, true, false, ◌&&◌, ◌||◌, eqb, ◌⊎◌, List, length, get_or, drop, sym, refl, ap, ◌∙◌, subst, inl, inr, arith}
use Rattle.std.proofs.lemmas.Bool.{cases_Bool, cases_eq, cases_lt, both_ways, false≢true, ne_eqb, eq-eqb, or_left, and_parts, and_from}
use Rattle.finite.specs.Finite.{count, has}
use Rattle.finite.specs.Supports.{Within}
use Rattle.finite.proofs.Counts.{count_empty, has_true, first_at, minus, minus_other}
use Rattle.grids.specs.Largest.{most}
use Rattle.grids.proofs.Largest.{most_ge, most_at, most_none}
use Rattle.graph.specs.Graph.{Graph, Lawful, held, clash}
use Rattle.graph.specs.Cliques.{Clique}
use Rattle.graph.proofs.Graphs.{held_below}
use Rattle.climbing.specs.Climbs.{AtMostAmong, LargestAmong, CliqueNumber, EachOnce, BlockIn, near, later, plus, last}
use Rattle.climbing.proofs.Steps.{minus_member, clique_minus, count_minus, clique_plus, count_plus, largest_plus, largest_stays, largest_same}
use Rattle.climbing.proofs.Later.{has_after}

-- ---- inside every set there is a largest clique

-- where no vertex is in the set, the empty clique is the largest
none_largest : (g : Graph) (s : ℕ → Bool) → ((c : ℕ) → held g c ≡ true → s c ≡ false) → LargestAmong g s (λ c. false) 0
none_largest g s none = record {
  clique = record { members = λ c t. absurd (false≢true t); joins = λ a b t. absurd (false≢true t) };
  within = λ c t. absurd (false≢true t);
  many = count_empty (λ c. false) g.size (λ c _. refl);
  most = λ K k w. let e = count_empty K g.size (λ c _. elim (cases_Bool (K c)) [ inl y ↦ absurd (both_ways (s c) (none c (k.members c y)) (w c y)) | inr n ↦ n ]) in omega arith;
}

pub number_empty : (g : Graph) (s : ℕ → Bool) → ((c : ℕ) → s c ≡ false) → LargestAmong g s (λ c. false) 0
number_empty g s none = none_largest g s (λ c _. none c)

number_none : (g : Graph) (s : ℕ → Bool) → ((c : ℕ) → held g c ≡ true → s c ≡ false) → CliqueNumber g s 0
number_none g s none = record { set = λ c. false; largest = none_largest g s none }

some_below : (g : Graph) → Lawful g → (n : ℕ) (s : ℕ → Bool) → ((c : ℕ) → s c ≡ true → c < n) → (b : ℕ) × CliqueNumber g s b
some_below g law zero s f =
    (0, number_none g s (λ c h. elim (cases_Bool (s c)) [ inl y ↦ absurd (let l = f c y in omega arith) | inr n ↦ n ]))
some_below g law (suc n) s f =
    elim (cases_Bool (s n)) [
      | inr z ↦ some_below g law n s (λ c t. let l = f c t in let ne : c ≡ n → ⊥ = λ e. both_ways (s n) z (ap s (sym e) ∙ t) in elim (cases_eq c n) [ inl e ↦ absurd (ne e) | inr _ ↦ omega arith ])
      | inl y ↦ elim (cases_Bool (held g n)) [
        | inl h ↦ let x = some_below g law n (minus s n) below in
            let u = some_below g law n (near g (minus s n) n) (λ c t. below c (and_parts (minus s n c) (clash g n c) t).0) in
            elim (cases_lt (u.0 + 1) x.0) [
              | inl l ↦ (x.0, record { set = x.1.set; largest = largest_stays g (minus s n) s x.1.set n u.0 x.0 (is y) x.1.largest u.1.largest.most (omega arith) })
              | inr l ↦ (u.0 + 1, record { set = plus n u.1.set; largest = largest_plus g (minus s n) s u.1.set n x.0 u.0 law h (is y) u.1.largest x.1.largest.most l })
            ]
        | inr z ↦ let x = some_below g law n (minus s n) below in (x.0, record { set = x.1.set; largest = unheld z x.1.set x.0 x.1.largest })
      ]
    ]
  where
    below : (c : ℕ) → minus s n c ≡ true → c < n
    below c t = let m = minus_member s n c t in let l = f c m.0 in elim (cases_eq c n) [ inl e ↦ absurd (m.1 e) | inr _ ↦ omega arith ]

    is : s n ≡ true → (c : ℕ) → s c ≡ plus n (minus s n) c
    is y c = elim (cases_eq c n) [
      | inl e ↦ ap s e ∙ y ∙ sym (or_left (eqb n c) (minus s n c) (eq-eqb n c (sym e)))
      | inr ne ↦ minus_other s n c ne ∙ sym (ap (λ (b : Bool). b || minus s n c) (ne_eqb n c (λ e. ne (sym e))))
    ]

    unheld : held g n ≡ false → (K : ℕ → Bool) (b : ℕ) → LargestAmong g (minus s n) K b → LargestAmong g s K b
    unheld z K b lg = record {
      clique = lg.clique;
      within = λ c t. (minus_member s n c (lg.within c t)).0;
      many = lg.many;
      most = λ M k w. lg.most M k (λ c t. sym (minus_other s n c (λ e. both_ways (held g n) z (ap (held g) (sym e) ∙ k.members c t))) ∙ w c t);
    }

pub some_largest : (g : Graph) (s : ℕ → Bool) → Lawful g → (b : ℕ) × CliqueNumber g s b
some_largest g s law =
    let x = some_below g law g.size (λ c. s c && held g c) (λ c t. held_below g c (and_parts (s c) (held g c) t).1) in (
      x.0,
      record {
        set = x.1.set;
        largest = record {
          clique = x.1.largest.clique;
          within = λ c t. (and_parts (s c) (held g c) (x.1.largest.within c t)).0;
          many = x.1.largest.many;
          most = λ M k w. x.1.largest.most M k (λ c t. and_from (s c) (held g c) (w c t) (k.members c t));
        };
      },
    )

pub one_number : (g : Graph) (s : ℕ → Bool) (b d : ℕ) → CliqueNumber g s b → CliqueNumber g s d → b ≡ d
one_number g s b d x y =
    let l = y.largest.most x.set x.largest.clique x.largest.within in
    let h = x.largest.most y.set y.largest.clique y.largest.within in
    omega (arith, x.largest.many, y.largest.many)

-- ---- later neighbours

some_member : (M : ℕ → Bool) (n : ℕ) → ((c : ℕ) × (M c ≡ true)) ⊎ ((c : ℕ) → c < n → M c ≡ false)
some_member M zero = inr (λ c l. absurd (omega arith))
some_member M (suc n) =
    elim (cases_Bool (M n)) [
      | inl y ↦ inl (n, y)
      | inr z ↦ elim (some_member M n) [ inl m ↦ inl m | inr f ↦ inr (λ c l. elim (cases_eq c n) [ inl e ↦ ap M e ∙ z | inr e ↦ f c (omega arith) ]) ]
    ]

module _ (g : Graph) (p : List ℕ) (w : ℕ → ℕ) (law : Lawful g) (once : EachOnce g p) (number : (i : ℕ) → i < length p → CliqueNumber g (later g p i) (w i)) where
  -- a clique with a member: its first in the list, and later neighbours of that
  led : (L : ℕ → Bool) (c : ℕ) → Clique g L → L c ≡ true → count L g.size ≤ most (λ i. w i + 1) (length p)
  led L c k y =
      let f = first_at L p c (once.all c (k.members c y)) y in
      let i = f.0 in
      let v = get_or p i 0 in
      let e = count_minus g L v k f.2 in
      let inside : Within (minus L v) (later g p i) = λ b t. (let m = minus_member L v b t in and_from (has (drop (i + 1) p) b) (clash g v b) (has_after p i b f.1 (once.all b (k.members b m.0)) (f.3 b m.0) m.1) (k.joins v b f.2 m.0 (λ d. m.1 (sym d)))) in
      let a = (number i f.1).largest.most (minus L v) (clique_minus g L v k) inside in
      let z = most_ge (λ i. w i + 1) (length p) i f.1 in
      omega arith

  above : AtMostAmong g (held g) (most (λ i. w i + 1) (length p))
  above L k _ =
      elim (cases_eq (count L g.size) 0) [
        | inl e ↦ omega arith
        | inr ne ↦ elim (some_member L g.size) [ inl m ↦ led L m.0 k m.1 | inr f ↦ absurd (ne (count_empty L g.size f)) ]
      ]

  pub later_number : CliqueNumber g (held g) (most (λ i. w i + 1) (length p))
  later_number =
      elim (cases_lt 0 (length p)) [
        | inl l ↦ let x = most_at (λ i. w i + 1) (length p) l in
            let i = x.0 in
            let v = get_or p i 0 in
            let lg = (number i x.1).largest in
            let hv = once.vertex i x.1 in
            let kp = clique_plus g (has (drop (i + 1) p)) (number i x.1).set v law hv lg.clique lg.within in
            record { set = plus v (number i x.1).set; largest = record { clique = kp; within = kp.members; many = count_plus g (has (drop (i + 1) p)) (number i x.1).set v law hv lg.clique lg.within ∙ ap (λ (y : ℕ). y + 1) lg.many ∙ x.2; most = above } }
        | inr l ↦ let e : length p ≡ 0 = omega arith in
            subst (λ (n : ℕ). CliqueNumber g (held g) n) (sym (ap (most (λ i. w i + 1)) e ∙ most_none (λ i. w i + 1)))
            (number_none g (held g) (λ c h. absurd (let t = has_true p c (once.all c h) in omega (arith, t.1))))
      ]

-- ---- all of the list

pub all_climbed : (g : Graph) (p block : List ℕ) (b : ℕ) → EachOnce g p → BlockIn g (last p (length p)) block b → BlockIn g (held g) block b
all_climbed g p block b once bl =
    let e : length p - length p ≡ 0 = omega arith in
    let is : (c : ℕ) → last p (length p) c ≡ has p c = λ c. ap (λ (k : ℕ). has (drop k p) c) e in
    record {
      set = bl.set;
      largest = largest_same g (last p (length p)) (held g) bl.set b
          (λ c t. let w = has_true p c (sym (is c) ∙ t) in ap (held g) (sym w.2) ∙ once.vertex w.0 w.1)
          (λ c t. is c ∙ once.all c t) bl.largest;
      front = bl.front;
    }
