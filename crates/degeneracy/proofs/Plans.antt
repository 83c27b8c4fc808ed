-- The greedy colouring back through an order.
use Rattle.std.proofs.Common.{◌≡◌, ℕ, zero, suc, ◌+◌, ◌-◌, ◌<◌, ◌≤◌, Bool, true, false, not, ◌&&◌, eqb, ◌⊎◌, List, length, get_or, take, set, sym, ap, ◌∙◌, subst, inl, inr, arith, get_or-set_other, get_or-set_same}
use Rattle.std.proofs.lemmas.List.{take_more, get_or-take, length-take-le}
use Rattle.std.proofs.lemmas.Bool.{cases_Bool, cases_eq, cases_lt, cases_order, and_parts, and_from, both_ways, eq-eqb, not-true}
use Rattle.finite.specs.Finite.{has}
use Rattle.finite.proofs.Counts.{count_onto, count_mono, has_true, has_at, has_take}
use Rattle.graph.specs.Graph.{Graph, Lawful, held, clash, inside}
use Rattle.graph.specs.Colourings.{Proper, Coloured}
use Rattle.graph.proofs.Graphs.{held_below, clash_left, clash_right}
use Rattle.degeneracy.specs.Order.{survivors, met, IsOrder, IsPeak}
use Rattle.degeneracy.specs.Greedy.{Lowest, IsPlan, coloured_near}
use Rattle.degeneracy.proofs.Orders.{survivors_held, survivors_not, survivors_from, survivors_other, survivors_none}

-- one colour fits
pub lowest_one : (g : Graph) (s : ℕ → Bool) (col : ℕ → ℕ) (x q r : ℕ) → Lowest g s col x q → Lowest g s col x r → q ≡ r
lowest_one g s col x q r a b =
    elim (cases_order q r) [
      | inl e ↦ e
      | inr o ↦ elim o [
        | inl l ↦ absurd (let w = b.below q a.from_one l in a.free w.0 w.1 w.2 w.3)
        | inr l ↦ absurd (let w = a.below r b.from_one l in b.free w.0 w.1 w.2 w.3)
      ]
    ]

pub lowest_same : (g : Graph) (s : ℕ → Bool) (col new : ℕ → ℕ) (x r : ℕ) → ((b : ℕ) → s b ≡ true → col b ≡ new b) → Lowest g s col x r → Lowest g s new x r
lowest_same g s col new x r e a =
    record {
      from_one = a.from_one;
      free = λ b m k z. a.free b m k (e b m ∙ z);
      below = λ k l h. let w = a.below k l h in (w.0, w.1, w.2, sym (e w.0 w.1) ∙ w.3);
    }

-- at most one more than the neighbours in the set
pub lowest_few : (g : Graph) (s : ℕ → Bool) (col : ℕ → ℕ) (x r : ℕ) → Lowest g s col x r → r ≤ inside g s x + 1
unfolding inside
lowest_few g s col x r a =
    let h = count_onto (λ b. s b && clash g x b) (λ b. col b - 1) g.size (r - 1) (λ k l. let w = a.below (k + 1) (omega arith) (omega arith) in (w.0, held_below g w.0 (clash_right g x w.0 w.2), and_from (s w.0) (clash g x w.0) w.1 w.2, omega (arith, w.3))) in
    omega arith

-- each vertex stands somewhere in the order, and lives there
pub place : (g : Graph) (p : List ℕ) (c : ℕ) → IsOrder g p → held g c ≡ true → (i : ℕ) × (i < length p) × (get_or p i 0 ≡ c)
place g p c o e = has_true p c (o.all c e)

-- what stands at i is gone after i
pub gone_after : (g : Graph) (p : List ℕ) (i j : ℕ) → i < j → j ≤ length p → survivors g (take j p) (get_or p i 0) ≡ false
gone_after g p i j l m =
    elim (cases_Bool (survivors g (take j p) (get_or p i 0))) [
      | inr y ↦ y
      | inl y ↦ absurd (let h : has (take j p) (get_or p i 0) ≡ true = (let e = has_at (take j p) i (let n = length-take-le j p m in omega arith) in let q = get_or-take j p i 0 l in rw q at e) in both_ways (has (take j p) (get_or p i 0)) (survivors_not g (take j p) (get_or p i 0) y) h)
    ]

-- what lives later lives earlier
pub lives_before : (g : Graph) (p : List ℕ) (i j b : ℕ) → i ≤ j → survivors g (take j p) b ≡ true → survivors g (take i p) b ≡ true
lives_before g p i j b l y =
    survivors_from g (take i p) b (survivors_held g (take j p) b y) (has_take p i j b l (survivors_not g (take j p) b y))

pub plan_proper : (g : Graph) (p : List ℕ) (col : ℕ → ℕ) → Lawful g → IsOrder g p → IsPlan g p col → Proper g col
plan_proper g p col lw o w a b e same =
    let ia = place g p a o (clash_left g a b e) in
    let ib = place g p b o (clash_right g a b e) in
    elim (cases_order ia.0 ib.0) [
      | inl q ↦ let z : a ≡ b = sym ia.2 ∙ ap (λ i. get_or p i 0) q ∙ ib.2 in both_ways (clash g a b) (ap (clash g a) (sym z) ∙ lw.never a) e
      | inr r ↦ elim r [
        | inl l ↦ earlier a b ia ib l e same
        | inr l ↦ earlier b a ib ia l (lw.both b a ∙ e) (sym same)
      ]
    ]
  where
    earlier : (x y : ℕ) (ix : (i : ℕ) × (i < length p) × (get_or p i 0 ≡ x)) (iy : (i : ℕ) × (i < length p) × (get_or p i 0 ≡ y)) → ix.0 < iy.0 → clash g x y ≡ true → col x ≡ col y → ⊥
    earlier x y ix iy l k z =
        let m = lives_before g p ix.0 iy.0 y (omega arith) (subst (λ v. survivors g (take iy.0 p) v ≡ true) iy.2 (o.each iy.0 iy.1).member) in
        let h = subst (λ v. Lowest g (survivors g (take ix.0 p)) col v (col v)) ix.2 (w.each ix.0 ix.1) in
        h.free y m k (sym z)

pub plan_few : (g : Graph) (p : List ℕ) (col : ℕ → ℕ) (m : ℕ) → IsOrder g p → IsPeak g p m → IsPlan g p col → (c : ℕ) → c < g.size → col c ≤ m + 1
unfolding met
plan_few g p col m o k w c l =
    elim (cases_Bool (held g c)) [
      | inr n ↦ omega (arith, w.others c l n)
      | inl y ↦ let i = place g p c o y in
          let h = lowest_few g (survivors g (take i.0 p)) col (get_or p i.0 0) (col (get_or p i.0 0)) (w.each i.0 i.1) in
          let j = k.above i.0 i.1 in
          let z = ap col i.2 in omega arith
    ]

-- the state of the loop once the places from i on are coloured
pub record Painted (g : Graph) (p : List ℕ) (i : ℕ) (paint : List ℕ) : Type 0 where
  pub each : (j : ℕ) → i ≤ j → j < length p → Lowest g (survivors g (take j p)) (λ c. get_or paint c 0) (get_or p j 0) (get_or paint (get_or p j 0) 0)
  pub others : (c : ℕ) → c < g.size → survivors g (take i p) c ≡ false → get_or paint c 0 ≡ 0
  pub small : (c : ℕ) → c < g.size → get_or paint c 0 ≤ 64

pub painted_none : (g : Graph) (p : List ℕ) (i : ℕ) (paint : List ℕ) → i ≡ length p → ((c : ℕ) → c < g.size → get_or paint c 0 ≡ 0) → Painted g p i paint
painted_none g p i paint e z =
    record { each = λ j l m. absurd (omega arith); others = λ c l n. z c l; small = λ c l. omega (arith, z c l) }

pub painted_all : (g : Graph) (p : List ℕ) (paint : List ℕ) → Painted g p 0 paint → IsPlan g p (λ c. get_or paint c 0)
painted_all g p paint s =
    record { each = λ i l. s.each i (omega arith) l; others = λ c l n. s.others c l (survivors_none g c ∙ n) }

-- the whole set in place of those that have a colour
pub painted_more : (g : Graph) (p : List ℕ) (i : ℕ) (paint : List ℕ) (r : ℕ) → Lawful g → IsOrder g p → i < length p → g.size ≤ length paint → Painted g p (i + 1) paint → Lowest g (held g) (λ c. get_or paint c 0) (get_or p i 0) r → r ≤ 64 → Painted g p i (set paint (get_or p i 0) r)
painted_more g p i paint r lw o l fits s a small =
    let x = get_or p i 0 in
    let nx = o.each i l in
    let lt : x < length paint = omega (arith, nx.within) in
    let same = get_or-set_same paint x r 0 lt in
    let tm = take_more p i 0 l in
    let self : survivors g (take (i + 1) p) x ≡ false = gone_after g p i (i + 1) (omega arith) (omega arith) in
    let other : (c : ℕ) → (c ≡ x → ⊥) → survivors g (take i p) c ≡ survivors g (take (i + 1) p) c = λ c ne. survivors_other g (take i p) x c ne ∙ ap (λ t. survivors g t c) (sym tm) in
    record {
      each = λ j h m. elim (cases_eq j i) [
        | inl e ↦ subst (λ v. Lowest g (survivors g (take v p)) (λ c. get_or (set paint x r) c 0) (get_or p v 0) (get_or (set paint x r) (get_or p v 0) 0)) (sym e) (rw same (record {
          from_one = a.from_one;
          free = λ b n k z. let ne : b ≡ x → ⊥ = λ q. both_ways (clash g x b) (ap (clash g x) q ∙ lw.never x) k in a.free b (clash_right g x b k) k (sym (get_or-set_other paint x b r 0 ne) ∙ z);
          below = λ k one low. let w = a.below k one low in
              let b = w.0 in
              let ne : b ≡ x → ⊥ = λ q. both_ways (clash g x b) (ap (clash g x) q ∙ lw.never x) w.2 in
              let live : survivors g (take (i + 1) p) b ≡ true = elim (cases_Bool (survivors g (take (i + 1) p) b)) [ inl y ↦ y | inr y ↦ absurd (let z = s.others b (held_below g b w.1) y in omega (arith, w.3)) ] in
              (b, other b ne ∙ live, w.2, get_or-set_other paint x b r 0 ne ∙ w.3);
        }))
        | inr ne ↦ let gone : (b : ℕ) → survivors g (take j p) b ≡ true → b ≡ x → ⊥ = λ b y q. both_ways (survivors g (take j p) b) (ap (survivors g (take j p)) q ∙ gone_after g p i j (omega arith) (omega arith)) y in
            let old = s.each j (omega arith) m in
            let here = get_or-set_other paint x (get_or p j 0) r 0 (gone (get_or p j 0) (o.each j m).member) in
            rw here (lowest_same g (survivors g (take j p)) (λ c. get_or paint c 0) (λ c. get_or (set paint x r) c 0) (get_or p j 0) (get_or paint (get_or p j 0) 0) (λ b y. sym (get_or-set_other paint x b r 0 (gone b y))) old)
      ];
      others = λ c h n. let ne : c ≡ x → ⊥ = λ q. both_ways (survivors g (take i p) c) n (ap (survivors g (take i p)) q ∙ nx.member) in get_or-set_other paint x c r 0 ne ∙ s.others c h (sym (other c ne) ∙ n);
      small = λ c h. elim (cases_eq c x) [
        | inl e ↦ omega (arith, ap (λ v. get_or (set paint x r) v 0) e, same)
        | inr ne ↦ omega (arith, get_or-set_other paint x c r 0 ne, s.small c h)
      ];
    }

pub lowest_same_but : (g : Graph) (s : ℕ → Bool) (col new : ℕ → ℕ) (x r : ℕ) → Lawful g → ((b : ℕ) → s b ≡ true → (b ≡ x → ⊥) → col b ≡ new b) → Lowest g s col x r → Lowest g s new x r
lowest_same_but g s col new x r lw e a =
    let ne : (b : ℕ) → clash g x b ≡ true → b ≡ x → ⊥ = λ b k q. both_ways (clash g x b) (ap (clash g x) q ∙ lw.never x) k in
    record {
      from_one = a.from_one;
      free = λ b m k z. a.free b m k (e b m (ne b k) ∙ z);
      below = λ k l h. let w = a.below k l h in (w.0, w.1, w.2, sym (e w.0 w.1 (ne w.0 w.2)) ∙ w.3);
    }

-- two plans of one order agree: from the last place back
agree : (g : Graph) (p : List ℕ) (col new : ℕ → ℕ) → Lawful g → IsOrder g p → IsPlan g p col → IsPlan g p new → (m i : ℕ) → i < length p → length p ≤ i + m → col (get_or p i 0) ≡ new (get_or p i 0)
agree g p col new lw o a b zero i l h = absurd (omega arith)
agree g p col new lw o a b (suc m) i l h =
    let x = get_or p i 0 in
    let s = survivors g (take i p) in
    let others : (c : ℕ) → s c ≡ true → (c ≡ x → ⊥) → col c ≡ new c = λ c y ne.
    let j = place g p c o (survivors_held g (take i p) c y) in
    elim (cases_lt i j.0) [
      | inl k ↦ ap col (sym j.2) ∙ agree g p col new lw o a b m j.0 j.1 (omega arith) ∙ ap new j.2
      | inr k ↦ elim (cases_eq j.0 i) [
        | inl e ↦ absurd (ne (sym j.2 ∙ ap (λ v. get_or p v 0) e))
        | inr e ↦ absurd (both_ways (s c) (ap s (sym j.2) ∙ gone_after g p j.0 i (omega arith) (omega arith)) y)
      ]
    ] in
    lowest_one g s new x (col x) (new x) (lowest_same_but g s col new x (col x) lw others (a.each i l)) (b.each i l)

-- there is one plan
pub plan_one : (g : Graph) (p : List ℕ) (col new : ℕ → ℕ) → Lawful g → IsOrder g p → IsPlan g p col → IsPlan g p new → (c : ℕ) → c < g.size → col c ≡ new c
plan_one g p col new lw o a b c l =
    elim (cases_Bool (held g c)) [
      | inr n ↦ a.others c l n ∙ sym (b.others c l n)
      | inl y ↦ let j = place g p c o y in ap col (sym j.2) ∙ agree g p col new lw o a b (length p) j.0 j.1 (omega arith) ∙ ap new j.2
    ]

-- a vertex has a colour, and each lower one occurs too
pub plan_low : (g : Graph) (p : List ℕ) (col : ℕ → ℕ) → IsOrder g p → IsPlan g p col → (c : ℕ) → held g c ≡ true → 1 ≤ col c
plan_low g p col o w c y =
    let i = place g p c o y in
    let z = ap col i.2 in omega (arith, (w.each i.0 i.1).from_one)

pub plan_below : (g : Graph) (p : List ℕ) (col : ℕ → ℕ) → IsOrder g p → IsPlan g p col → (c : ℕ) → held g c ≡ true → (d : ℕ) → 1 ≤ d → d ≤ col c → (b : ℕ) × (held g b ≡ true) × (col b ≡ d)
plan_below g p col o w c y d one top =
    elim (cases_eq d (col c)) [
      | inl e ↦ (c, y, sym e)
      | inr ne ↦ let i = place g p c o y in
          let z = ap col i.2 in
          let v = (w.each i.0 i.1).below d one (omega arith) in
          (v.0, survivors_held g (take i.0 p) v.0 v.1, v.3)
    ]

-- the colours from 1 to the highest are the colours of the plan
pub plan_coloured : (g : Graph) (p : List ℕ) (col : ℕ → ℕ) (top : ℕ) → Lawful g → IsOrder g p → IsPlan g p col → ((c : ℕ) → c < g.size → col c ≤ top) → Coloured g top col
plan_coloured g p col top lw o w l =
    record { low = plan_low g p col o w; high = λ c y. l c (held_below g c y); apart = λ a b x y e q. plan_proper g p col lw o w a b e q }

pub plan_reached : (g : Graph) (p : List ℕ) (col : ℕ → ℕ) (top : ℕ) → IsOrder g p → IsPlan g p col → (top ≡ 0) ⊎ ((c : ℕ) × (c < g.size) × (col c ≡ top)) → (d : ℕ) → 1 ≤ d → d ≤ top → (b : ℕ) × (held g b ≡ true) × (col b ≡ d)
plan_reached g p col top o w r d one l =
    elim r [
      | inl z ↦ absurd (omega arith)
      | inr v ↦ elim (cases_Bool (held g v.0)) [
        | inl y ↦ plan_below g p col o w v.0 y d one (omega (arith, v.2))
        | inr n ↦ absurd (omega (arith, v.2, w.others v.0 v.1 n))
      ]
    ]

-- those that have a colour live on
pub painted_few : (g : Graph) (p : List ℕ) (i : ℕ) (paint : List ℕ) → Painted g p (i + 1) paint → met g p i ≤ 63 → coloured_near g paint (get_or p i 0) ≤ 63
unfolding met inside coloured_near
painted_few g p i paint s few =
    let x = get_or p i 0 in
    let h = count_mono (λ b. clash g x b && not (eqb (get_or paint b 0) 0)) (λ b. survivors g (take i p) b && clash g x b) g.size (λ b l e.
    let q = and_parts (clash g x b) (not (eqb (get_or paint b 0) 0)) e in
    let live : survivors g (take (i + 1) p) b ≡ true = elim (cases_Bool (survivors g (take (i + 1) p) b)) [ inl y ↦ y | inr y ↦ absurd (both_ways (eqb (get_or paint b 0) 0) (not-true (eqb (get_or paint b 0) 0) q.1) (eq-eqb (get_or paint b 0) 0 (s.others b l y))) ] in
    and_from (survivors g (take i p) b) (clash g x b) (lives_before g p i (i + 1) b (omega arith) live) q.0) in
    omega arith
