-- The state of the search: a stack of levels. Each has a clique that is picked, what may still be added to it, and what of that is left to branch on.
use Rattle.std.proofs.Common.{◌≡◌, ℕ, ◌+◌, ◌-◌, ◌<◌, ◌≤◌, Bool, true, not, ◌&&◌, ◌||◌, eqb, ltb, ◌⊎◌, Some, None, Option, sym, refl, ◌∙◌, inr, ⊎_elim, arith}
use Rattle.std.proofs.lemmas.Bool.{cases_eq, cases_lt, and_parts, and_from, both_ways, ltb-true, lt-ltb}
use Rattle.finite.specs.Finite.{count}
use Rattle.finite.specs.Masks.{bit}
use Rattle.finite.specs.Supports.{Within}
use Rattle.finite.proofs.Counts.{count_le, count_empty}
use Rattle.finite.proofs.Masks.{bit_zero}
use Rattle.pictures.specs.Pictures.{Clique, joined, places}
use Rattle.pictures.specs.declared.shape.Picture.{Picture}
use Rattle.searching.specs.Answers.{Answers}
use Rattle.searching.specs.Cuts.{Cut}
use Rattle.searching.proofs.Cuts.{cut_all, cut_weaker, taken_within, taken_cut}
use Rattle.searching.proofs.Search.{Level, Extends, dead, shrink, grow, parts}

-- the best so far is a clique inside m with more than least members, and most says how many
abbrev pub Found : Picture → ℕ → ℕ → Option ℕ → ℕ → Type 0
Found p m least None most = most ≡ least
Found p m least (Some k) most = (least < most) × Clique p m (bit k) × (count (bit k) 64 ≡ most)

pub record State (p : Picture) (m least : ℕ) (spare branch picked : ℕ → ℕ) (height : ℕ) (best : Option ℕ) (most : ℕ) : Type 0 where
  pub deep : height ≤ most + 1
  pub level : (k : ℕ) → k < height → Level p m (spare k) (picked k) k
  pub within : (k : ℕ) → k < height → Within (bit (branch k)) (bit (spare k))
  pub cut : (k : ℕ) → k < height → Cut p (spare k) (branch k) (most - k)
  pub found : Found p m least best most
  pub left : (K : ℕ → Bool) → Clique p m K → most < count K 64 → (k : ℕ) × (k < height) × Extends K (spare k) (picked k)

-- two entries of a stack that is the same below them
pub record Pushed (f f' : ℕ → ℕ) (top a b : ℕ) : Type 0 where
  pub low : (k : ℕ) → k < top → f' k ≡ f k
  pub here : f' top ≡ a
  pub next : f' (top + 1) ≡ b

-- ---- the start

module _ (p : Picture) (m least first b : ℕ) (is : (j : ℕ) → bit first j ≡ (bit m j && ltb j (places p))) (w : Within (bit b) (bit first)) (c : Cut p first b least) where
  pub start : (spare branch picked : ℕ → ℕ) → spare 0 ≡ first → branch 0 ≡ b → picked 0 ≡ 0 → State p m least spare branch picked 1 None least
  start spare branch picked oo bo ho =
      let none : (i : ℕ) → bit 0 i ≡ true → ⊥ = λ i t. both_ways _ (bit_zero i) t in
      record {
        deep = omega arith;
        level = λ k h. let e : k ≡ 0 = omega arith in rw (e, oo, ho) (record {
          clique = record { placed = λ i t. absurd (none i t); inside = λ i t. absurd (none i t); joins = λ i j t. absurd (none i t) };
          size = count_empty (bit 0) 64 (λ i _. bit_zero i);
          placed = λ i t. ltb-true _ _ (and_parts _ _ (sym (is i) ∙ t)).1;
          inside = λ i t. (and_parts _ _ (sym (is i) ∙ t)).0;
          joins = λ i j t. absurd (none i t);
        });
        within = λ k h. let e : k ≡ 0 = omega arith in rw (e, oo, bo) w;
        cut = λ k h. let e : k ≡ 0 = omega arith in rw (e, oo, bo) (cut_weaker p first b least (least - 0) (omega arith) c);
        found = refl;
        left = λ K k big. (0, omega arith, rw (oo, ho) (record { holds = λ i t. absurd (none i t); rest = λ i t. inr (is i ∙ and_from _ _ (k.inside i t) (lt-ltb _ _ (k.placed i t))) }));
      }

-- ---- a turn

module _ (p : Picture) (m least : ℕ) (spare branch picked : ℕ → ℕ) (top : ℕ) (best : Option ℕ) (most : ℕ) (st : State p m least spare branch picked (top + 1) best most) (o h : ℕ) (eo : spare top ≡ o) (eh : picked top ≡ h) where
  here : Level p m o h top
  here = rw (eo, eh) at (st.level top (omega arith))

  -- there are at most 65 levels
  pub tall : top < 65
  tall = omega (arith, here.size, count_le (bit h) 64)

  -- nothing is left to branch on
  pub pop : (spare' branch' picked' : ℕ → ℕ) → ((k : ℕ) → k < top → spare' k ≡ spare k) → ((k : ℕ) → k < top → branch' k ≡ branch k) → ((k : ℕ) → k < top → picked' k ≡ picked k) → (b : ℕ) → b ≡ 0 → Cut p o b (most - top) → State p m least spare' branch' picked' top best most
  pop spare' branch' picked' so bo ho b e c = record {
    deep = omega (arith, st.deep);
    level = λ k x. rw (so k x, ho k x) (st.level k (omega arith));
    within = λ k x. rw (so k x, bo k x) (st.within k (omega arith));
    cut = λ k x. rw (so k x, bo k x) (st.cut k (omega arith));
    found = st.found;
    left = λ K k big.
        let w = st.left K k big in
        ⊎_elim
        (λ (q : w.0 ≡ top). absurd (let d = dead p m o h top (most - top) K here k (rw (q, eo, eh) at w.2) (cut_all p o b (most - top) e c) in omega (arith, st.deep)))
        (λ ne. let l : w.0 < top = omega (arith, w.1) in (w.0, l, rw (so w.0 l, ho w.0 l) w.2))
        (cases_eq w.0 top);
  }

  module _ (b v rest less next chosen : ℕ) (vl : v < 64) (vb : bit b v ≡ true) (bw : Within (bit b) (bit o)) (bc : Cut p o b (most - top)) (isrest : (j : ℕ) → bit rest j ≡ (bit o j && not (eqb j v))) (isless : (j : ℕ) → bit less j ≡ (bit b j && not (eqb j v))) (ischosen : (j : ℕ) → bit chosen j ≡ (bit h j || eqb j v)) (isnext : (j : ℕ) → bit next j ≡ (bit rest j && joined p v j)) where
    grown : Level p m next chosen (top + 1)
    grown = grow p m o h top v next chosen vl (bw v vb) ischosen
        (λ i t. let a = and_parts _ _ (sym (isnext i) ∙ t) in (and_parts _ _ (sym (isrest i) ∙ a.0)).0)
        (λ j t. (and_parts _ _ (sym (isnext j) ∙ t)).1)
        here

    pub room_next : top + 1 < 65
    room_next = omega (arith, grown.size, count_le (bit chosen) 64)

    module _ (nb : ℕ) (spare' branch' picked' : ℕ → ℕ) (so : Pushed spare spare' top rest next) (bo : Pushed branch branch' top less nb) (ho : Pushed picked picked' top h chosen) (best' : Option ℕ) (most' : ℕ) (way : ((most < top + 1) × (most' ≡ top + 1) × (best' ≡ Some chosen)) ⊎ ((top + 1 ≤ most) × (most' ≡ most) × (best' ≡ best))) (nw : Within (bit nb) (bit next)) (nc : Cut p next nb (most' - (top + 1))) where
      grows : most ≤ most'
      grows = ⊎_elim (λ d. omega (arith, d.0, d.1)) (λ d. omega (arith, d.1)) way

      -- what holds of the levels below, of the one at the top and of the new one holds of all
      each : (P : ℕ → ℕ → ℕ → ℕ → Type 0) → ((k : ℕ) → k < top → P k (spare k) (branch k) (picked k)) → P top rest less h → P (top + 1) next nb chosen → (k : ℕ) → k < top + 1 + 1 → P k (spare' k) (branch' k) (picked' k)
      each P low at new k x = ⊎_elim
          (λ (e : k ≡ top + 1). rw (e, so.next, bo.next, ho.next) new)
          (λ ne. ⊎_elim
          (λ (e : k ≡ top). rw (e, so.here, bo.here, ho.here) at)
          (λ ne'. let l : k < top = omega arith in rw (so.low k l, bo.low k l, ho.low k l) (low k l))
          (cases_eq k top))
          (cases_eq k (top + 1))

      opened : (K : ℕ → Bool) → Clique p m K → most < count K 64 → (k : ℕ) × (k < top + 1 + 1) × Extends K (spare' k) (picked' k)
      opened K k big =
          let w = st.left K k big in
          ⊎_elim
          (λ (e : w.0 ≡ top). ⊎_elim
          (λ x. (top, omega arith, rw (so.here, ho.here) x))
          (λ x. (top + 1, omega arith, rw (so.next, ho.next) x))
          (parts p m o h v rest next chosen isrest ischosen isnext K k (rw (e, eo, eh) at w.2)))
          (λ ne. let l : w.0 < top = omega (arith, w.1) in (w.0, omega (arith, w.1), rw (so.low w.0 l, ho.low w.0 l) w.2))
          (cases_eq w.0 top)

      found : Found p m least best' most'
      found = ⊎_elim
          (λ d. rw (d.2, d.1) (let f = floor best most st.found in (omega (arith, d.0), grown.clique, grown.size)))
          (λ d. rw (d.2, d.1) st.found)
          way
        where
          floor : (r : Option ℕ) (n : ℕ) → Found p m least r n → least ≤ n
          floor None n e = omega arith
          floor (Some k) n f = omega (arith, f.0)

      pub push : State p m least spare' branch' picked' (top + 1 + 1) best' most'
      push = record {
        deep = ⊎_elim (λ d. omega (arith, d.1)) (λ d. omega (arith, d.0, d.1)) way;
        level = each (λ k o b h. Level p m o h k) (λ k x. st.level k (omega arith)) (shrink p m o rest h top (λ i t. (and_parts _ _ (sym (isrest i) ∙ t)).0) here) grown;
        within = each (λ k o b h. Within (bit b) (bit o)) (λ k x. st.within k (omega arith)) (taken_within p o b v rest less 0 isrest isless bw) nw;
        cut = each (λ k o b h. Cut p o b (most' - k)) (λ k x. cut_weaker p (spare k) (branch k) (most - k) (most' - k) (omega (arith, grows)) (st.cut k (omega arith))) (cut_weaker p rest less (most - top) (most' - top) (omega (arith, grows)) (taken_cut p o b v rest less (most - top) isrest isless bc)) nc;
        found = found;
        left = λ K k big. opened K k (omega (arith, grows));
      }

-- ---- the end

pub ended : (p : Picture) (m least : ℕ) (spare branch picked : ℕ → ℕ) (height : ℕ) (best : Option ℕ) (most : ℕ) → height ≡ 0 → State p m least spare branch picked height best most → Answers p m least best
ended p m least spare branch picked height None most z st =
    λ K k. ⊎_elim (λ (big : most < count K 64). absurd (let w = st.left K k big in omega (arith, w.1))) (λ h. omega (arith, st.found)) (cases_lt most (count K 64))
ended p m least spare branch picked height (Some b) most z st = (
  record {
    clique = st.found.1;
    most = λ K k. ⊎_elim (λ (big : most < count K 64). absurd (let w = st.left K k big in omega (arith, w.1))) (λ h. omega (arith, st.found.2)) (cases_lt most (count K 64));
  },
  omega (arith, st.found.0, st.found.2),
)
