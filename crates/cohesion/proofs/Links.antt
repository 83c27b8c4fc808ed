-- Pairs that living edges of a rising list join, and what one edge less changes.
use Rattle.std.proofs.Common.{◌≡◌, ℕ, ◌+◌, ◌<◌, ◌≤◌, Bool, true, false, cond, not, ◌&&◌, ◌||◌, List, length, None, sym, refl, ap, ◌∙◌, subst, inl, inr, add-zero, arith}
use Rattle.std.proofs.lemmas.Bool.{cases_Bool, cases_eq, both_ways, and_parts, and_from, and_left, and_right, or_cases, ne_eqb, not_from_false, not_from_true, not-true, cond-true, cond-false}
use Rattle.std.proofs.lemmas.Bool.Decides.{nat_tests}
use Rattle.finite.specs.Finite.{count, has}
use Rattle.finite.specs.Supports.{Within, Falls}
use Rattle.finite.proofs.Counts.{any_true, count_le, count_mono, count_same, count_less}
use Rattle.finite.proofs.Pigeons.{any_from}
use Rattle.graph.specs.declared.edge.Edge.{Edge}
use Rattle.graph.specs.Edges.{ends, Rising}
use Rattle.supports.specs.Peel.{but, Losers}
use Rattle.supports.proofs.Draining.{but_other, but_from}
use Rattle.cohesion.specs.Common.{edge_at, linked, shared, common, touches, far}
use Rattle.cohesion.proofs.Places.{ends_cases, ends_both, ends_own, ends_touch, touch_cases, far_a, far_b, smaller, below, place_one}

pub record Link (list : List Edge) (s : ℕ → Bool) (u w : ℕ) : Type 0 where
  pub place : ℕ
  pub within : place < length list
  pub member : s place ≡ true
  pub joined : ends (edge_at list place) u w ≡ true

pub linked_true : (list : List Edge) (s : ℕ → Bool) (u w : ℕ) → linked list s u w ≡ true → Link list s u w
unfolding linked
linked_true list s u w y =
    let r = any_true (λ j. s j && ends (edge_at list j) u w) (length list) y in
    let p = and_parts (s r.0) (ends (edge_at list r.0) u w) r.2 in
    record { place = r.0; within = r.1; member = p.0; joined = p.1 }

pub linked_from : (list : List Edge) (s : ℕ → Bool) (u w j : ℕ) → j < length list → s j ≡ true → ends (edge_at list j) u w ≡ true → linked list s u w ≡ true
unfolding linked
linked_from list s u w j l y z =
    any_from (λ i. s i && ends (edge_at list i) u w) (length list) j l (and_from (s j) (ends (edge_at list j) u w) y z)

pub linked_mono : (list : List Edge) (s t : ℕ → Bool) (u w : ℕ) → Within s t → linked list s u w ≡ true → linked list t u w ≡ true
linked_mono list s t u w f y =
    let k = linked_true list s u w y in linked_from list t u w k.place k.within (f k.place k.member) k.joined

bools : (p q : Bool) → (p ≡ true → q ≡ true) → (q ≡ true → p ≡ true) → p ≡ q
bools p q f g =
    elim (cases_Bool p) [
      | inl y ↦ y ∙ sym (f y)
      | inr y ↦ elim (cases_Bool q) [ inl z ↦ absurd (both_ways p y (g z)) | inr z ↦ y ∙ sym z ]
    ]

pub linked_both : (list : List Edge) (s : ℕ → Bool) (u w : ℕ) → linked list s u w ≡ linked list s w u
linked_both list s u w = bools (linked list s u w) (linked list s w u) (turn u w) (turn w u)
  where
    turn : (a b : ℕ) → linked list s a b ≡ true → linked list s b a ≡ true
    turn a b y = let k = linked_true list s a b y in linked_from list s b a k.place k.within k.member (sym (ends_both (edge_at list k.place) a b) ∙ k.joined)

pub shared_falls : (n : ℕ) (list : List Edge) (s t : ℕ → Bool) (u z : ℕ) → Within s t → shared n list s u z ≤ shared n list t u z
unfolding shared
shared_falls n list s t u z f =
    count_mono (λ w. linked list s u w && linked list s z w) (λ w. linked list t u w && linked list t z w) n (λ w l y. let h = and_parts (linked list s u w) (linked list s z w) y in and_from (linked list t u w) (linked list t z w) (linked_mono list s t u w f h.0) (linked_mono list s t z w f h.1))

pub common_falls : (n : ℕ) (list : List Edge) → Falls (common n list)
unfolding common
common_falls n list s t i f = shared_falls n list s t (edge_at list i).a (edge_at list i).b f

pub shared_swap : (n : ℕ) (list : List Edge) (s : ℕ → Bool) (u z : ℕ) → shared n list s u z ≡ shared n list s z u
unfolding shared
shared_swap n list s u z = count_same (λ w. linked list s u w && linked list s z w) (λ w. linked list s z w && linked list s u w) n (λ w l. grind (arith, nat_tests))

module _ (n : ℕ) (list : List Edge) (r : Rising n None list) (s : ℕ → Bool) (x : ℕ) (lx : x < length list) (sx : s x ≡ true) where
  -- one edge less: the pair of its ends is joined no more
  linked_but : (u w : ℕ) → linked list (but s x) u w ≡ (linked list s u w && not (ends (edge_at list x) u w))
  linked_but u w = bools (linked list (but s x) u w) (linked list s u w && not (ends (edge_at list x) u w)) there back
    where
      there : linked list (but s x) u w ≡ true → (linked list s u w && not (ends (edge_at list x) u w)) ≡ true
      there y =
          let k = linked_true list (but s x) u w y in
          let m = but_other s x k.place k.member in
          let ne : ends (edge_at list x) u w ≡ false = elim (cases_Bool (ends (edge_at list x) u w)) [ inr z ↦ z | inl z ↦ absurd (m.1 (place_one n list r k.place x u w k.within lx k.joined z)) ] in
          and_from (linked list s u w) (not (ends (edge_at list x) u w)) (linked_from list s u w k.place k.within m.0 k.joined) (not_from_false (ends (edge_at list x) u w) ne)

      back : (linked list s u w && not (ends (edge_at list x) u w)) ≡ true → linked list (but s x) u w ≡ true
      back y =
          let p = and_parts (linked list s u w) (not (ends (edge_at list x) u w)) y in
          let k = linked_true list s u w p.0 in
          linked_from list (but s x) u w k.place k.within (but_from s x k.place k.member (λ e. both_ways (ends (edge_at list x) u w) (not-true (ends (edge_at list x) u w) p.1) (ap (λ i. ends (edge_at list i) u w) (sym e) ∙ k.joined))) k.joined

  and_yes : (p q : Bool) → q ≡ true → (p && q) ≡ p
  and_yes p q e = grind (arith, nat_tests)

  linked_kept : (u w : ℕ) → ends (edge_at list x) u w ≡ false → linked list (but s x) u w ≡ linked list s u w
  linked_kept u w e = linked_but u w ∙ and_yes (linked list s u w) (not (ends (edge_at list x) u w)) (not_from_false (ends (edge_at list x) u w) e)

  -- two vertices that are no ends of x keep what they share
  shared_kept : (u z : ℕ) → ((w : ℕ) → ends (edge_at list x) u w ≡ false) → ((w : ℕ) → ends (edge_at list x) z w ≡ false) → shared n list s u z ≡ shared n list (but s x) u z
  unfolding shared
  shared_kept u z f g =
      count_same (λ w. linked list s u w && linked list s z w) (λ w. linked list (but s x) u w && linked list (but s x) z w) n (λ w l. sym (ap (λ b. b && linked list (but s x) z w) (linked_kept u w (f w)) ∙ ap (λ b. linked list s u w && b) (linked_kept z w (g w))))

  -- u and v are the ends of x, z is not: u and z lose v if they share it
  shared_less : (u v z : ℕ) → v < n → ends (edge_at list x) u v ≡ true → ((w : ℕ) → (w ≡ v → ⊥) → ends (edge_at list x) u w ≡ false) → ((w : ℕ) → ends (edge_at list x) z w ≡ false) → shared n list s u z ≡ shared n list (but s x) u z + cond (linked list s z v) 1 0
  unfolding shared
  shared_less u v z lv e f g =
      let P : ℕ → Bool = λ w. linked list s u w && linked list s z w in
      let Q : ℕ → Bool = λ w. linked list (but s x) u w && linked list (but s x) z w in
      let off : (w : ℕ) → (w ≡ v → ⊥) → P w ≡ Q w = λ w ne. sym (ap (λ b. b && linked list (but s x) z w) (linked_kept u w (f w ne)) ∙ ap (λ b. linked list s u w && b) (linked_kept z w (g w))) in
      let gone : Q v ≡ false = and_left (linked list (but s x) u v) (linked list (but s x) z v) (linked_but u v ∙ and_right (linked list s u v) (not (ends (edge_at list x) u v)) (not_from_true (ends (edge_at list x) u v) e)) in
      elim (cases_Bool (linked list s z v)) [
        | inl y ↦ count_less P Q v n lv (and_from (linked list s u v) (linked list s z v) (linked_from list s u v x lx sx e) y) gone off ∙ ap (λ (k : ℕ). count Q n + k) (sym (cond-true {A = ℕ} (linked list s z v) 1 0 y))
        | inr y ↦ count_same P Q n (λ w l. elim (cases_eq w v) [
          | inl i ↦ ap P i ∙ and_right (linked list s u v) (linked list s z v) y ∙ sym gone ∙ ap Q (sym i)
          | inr i ↦ off w i
        ]) ∙ sym (ap (λ (k : ℕ). count Q n + k) (cond-false {A = ℕ} (linked list s z v) 1 0 y) ∙ add-zero (count Q n))
      ]

  -- whether the edge at c has the end u, and its other end is linked to both ends of x
  abbrev pub leans : ℕ → ℕ → Bool
  leans u c = s c && (touches (edge_at list c) u && (linked list s (edge_at list x).a (far (edge_at list c) u) && linked list s (edge_at list x).b (far (edge_at list c) u)))

  xa : ℕ
  xa = (edge_at list x).a

  xb : ℕ
  xb = (edge_at list x).b

  not_end : (z : ℕ) → (z ≡ xa → ⊥) → (z ≡ xb → ⊥) → (w : ℕ) → ends (edge_at list x) z w ≡ false
  unfolding xa xb
  not_end z p q w =
      elim (cases_Bool (ends (edge_at list x) z w)) [
        | inr y ↦ y
        | inl y ↦ absurd (elim (ends_cases (edge_at list x) z w y) [ inl h ↦ p h.0 | inr h ↦ q h.0 ])
      ]

  off_a : (w : ℕ) → (w ≡ xb → ⊥) → ends (edge_at list x) xa w ≡ false
  unfolding xa xb
  off_a w ne =
      elim (cases_Bool (ends (edge_at list x) xa w)) [
        | inr y ↦ y
        | inl y ↦ absurd (elim (ends_cases (edge_at list x) xa w y) [ inl h ↦ ne h.1 | inr h ↦ omega (arith, h.0, smaller n list r x lx) ])
      ]

  off_b : (w : ℕ) → (w ≡ xa → ⊥) → ends (edge_at list x) xb w ≡ false
  unfolding xa xb
  off_b w ne =
      elim (cases_Bool (ends (edge_at list x) xb w)) [
        | inr y ↦ y
        | inl y ↦ absurd (elim (ends_cases (edge_at list x) xb w y) [ inl h ↦ omega (arith, h.0, smaller n list r x lx) | inr h ↦ ne h.1 ])
      ]

  own_b : ends (edge_at list x) xb xa ≡ true
  unfolding xa xb
  own_b = ends_both (edge_at list x) (edge_at list x).b (edge_at list x).a ∙ ends_own (edge_at list x)

  -- the edge at c has the end u of x; v is the other end of x, z of c
  lost_at : (c u v z : ℕ) → c < length list → s c ≡ true → v < n → ends (edge_at list c) u z ≡ true → ends (edge_at list x) u v ≡ true → ((w : ℕ) → (w ≡ v → ⊥) → ends (edge_at list x) u w ≡ false) → ((w : ℕ) → ends (edge_at list x) z w ≡ false) → common n list s c ≡ common n list (but s x) c + cond (linked list s z v) 1 0
  unfolding common
  lost_at c u v z lc sc lv e ex f g =
      let h = shared_less u v z lv ex f g in
      elim (ends_cases (edge_at list c) u z e) [
        | inl p ↦ subst (λ i. shared n list s i (edge_at list c).b ≡ shared n list (but s x) i (edge_at list c).b + cond (linked list s z v) 1 0) p.0 (subst (λ i. shared n list s u i ≡ shared n list (but s x) u i + cond (linked list s z v) 1 0) p.1 h)
        | inr p ↦ let k = shared_swap n list s z u ∙ h ∙ ap (λ (i : ℕ). i + cond (linked list s z v) 1 0) (shared_swap n list (but s x) u z) in
            subst (λ i. shared n list s i (edge_at list c).b ≡ shared n list (but s x) i (edge_at list c).b + cond (linked list s z v) 1 0) p.1 (subst (λ i. shared n list s z i ≡ shared n list (but s x) z i + cond (linked list s z v) 1 0) p.0 k)
      ]

  common_kept : (c : ℕ) → ((w : ℕ) → ends (edge_at list x) (edge_at list c).a w ≡ false) → ((w : ℕ) → ends (edge_at list x) (edge_at list c).b w ≡ false) → common n list s c ≡ common n list (but s x) c
  unfolding common
  common_kept c f g = shared_kept (edge_at list c).a (edge_at list c).b f g

  linked_self : (u : ℕ) → linked list s u u ≡ false
  linked_self u =
      elim (cases_Bool (linked list s u u)) [
        | inr y ↦ y
        | inl y ↦ absurd (let k = linked_true list s u u y in
            elim (ends_cases (edge_at list k.place) u u k.joined) [
              | inl h ↦ omega (arith, h.0, h.1, smaller n list r k.place k.within)
              | inr h ↦ omega (arith, h.0, h.1, smaller n list r k.place k.within)
            ])
      ]

  -- of the two ends of x the edge at c has one only
  lean_a : (c z : ℕ) → s c ≡ true → touches (edge_at list c) xa ≡ true → touches (edge_at list c) xb ≡ false → far (edge_at list c) xa ≡ z → linked list s xa z ≡ true → (leans xa c || leans xb c) ≡ linked list s z xb
  unfolding xa xb
  lean_a c z sc ta tb ez lz =
      let a = leans_yes xa c z sc ta ez in
      let b = leans_no xb c tb in
      let w = linked_both list s z xb in
      grind (arith, nat_tests)
    where
      leans_yes : (u c z : ℕ) → s c ≡ true → touches (edge_at list c) u ≡ true → far (edge_at list c) u ≡ z → leans u c ≡ (linked list s xa z && linked list s xb z)
      leans_yes u c z sc t e = ap (λ b. b && (touches (edge_at list c) u && (linked list s xa (far (edge_at list c) u) && linked list s xb (far (edge_at list c) u)))) sc ∙ ap (λ b. b && (linked list s xa (far (edge_at list c) u) && linked list s xb (far (edge_at list c) u))) t ∙ ap (λ v. linked list s xa v && linked list s xb v) e

      leans_no : (u c : ℕ) → touches (edge_at list c) u ≡ false → leans u c ≡ false
      leans_no u c t = and_right (s c) (touches (edge_at list c) u && (linked list s xa (far (edge_at list c) u) && linked list s xb (far (edge_at list c) u))) (and_left (touches (edge_at list c) u) (linked list s xa (far (edge_at list c) u) && linked list s xb (far (edge_at list c) u)) t)

  lean_b : (c z : ℕ) → s c ≡ true → touches (edge_at list c) xb ≡ true → touches (edge_at list c) xa ≡ false → far (edge_at list c) xb ≡ z → linked list s xb z ≡ true → (leans xa c || leans xb c) ≡ linked list s z xa
  unfolding xa xb
  lean_b c z sc tb ta ez lz =
      let a = leans_yes xb c z sc tb ez in
      let b = leans_no xa c ta in
      let w = linked_both list s z xa in
      grind (arith, nat_tests)
    where
      leans_yes : (u c z : ℕ) → s c ≡ true → touches (edge_at list c) u ≡ true → far (edge_at list c) u ≡ z → leans u c ≡ (linked list s xa z && linked list s xb z)
      leans_yes u c z sc t e = ap (λ b. b && (touches (edge_at list c) u && (linked list s xa (far (edge_at list c) u) && linked list s xb (far (edge_at list c) u)))) sc ∙ ap (λ b. b && (linked list s xa (far (edge_at list c) u) && linked list s xb (far (edge_at list c) u))) t ∙ ap (λ v. linked list s xa v && linked list s xb v) e

      leans_no : (u c : ℕ) → touches (edge_at list c) u ≡ false → leans u c ≡ false
      leans_no u c t = and_right (s c) (touches (edge_at list c) u && (linked list s xa (far (edge_at list c) u) && linked list s xb (far (edge_at list c) u))) (and_left (touches (edge_at list c) u) (linked list s xa (far (edge_at list c) u) && linked list s xb (far (edge_at list c) u)) t)

  lean_none : (c : ℕ) → touches (edge_at list c) xa ≡ false → touches (edge_at list c) xb ≡ false → (leans xa c || leans xb c) ≡ false
  unfolding xa xb
  lean_none c ta tb = grind (arith, nat_tests)

  apart : (c u : ℕ) → ((edge_at list c).a ≡ u → ⊥) → ((edge_at list c).b ≡ u → ⊥) → touches (edge_at list c) u ≡ false
  apart c u p q = let a = ne_eqb (edge_at list c).a u p in let b = ne_eqb (edge_at list c).b u q in grind (arith, nat_tests)

  -- how much the edge at c loses
  lost : (c : ℕ) → c < length list → s c ≡ true → (c ≡ x → ⊥) → common n list s c ≡ common n list (but s x) c + cond (leans xa c || leans xb c) 1 0
  unfolding xa xb
  lost c lc sc ne =
      let ca = (edge_at list c).a in
      let cb = (edge_at list c).b in
      let lt = smaller n list r c lc in
      let lx' = smaller n list r x lx in
      let bb = below n list r x lx in
      let own : ends (edge_at list c) ca cb ≡ true = ends_own (edge_at list c) in
      let two : ca ≡ xa → cb ≡ xb → ⊥ = λ p q. ne (place_one n list r c x xa xb lc lx (subst (λ v. ends (edge_at list c) v xb ≡ true) p (subst (λ v. ends (edge_at list c) ca v ≡ true) q own)) (ends_own (edge_at list x))) in
      let done : (b : Bool) (k : ℕ) → (leans xa c || leans xb c) ≡ b → common n list s c ≡ common n list (but s x) c + cond b 1 0 → common n list s c ≡ common n list (but s x) c + cond (leans xa c || leans xb c) 1 0 = λ b k e h. h ∙ ap (λ (v : Bool). common n list (but s x) c + cond v 1 0) (sym e) in
      elim (cases_eq ca xa) [
        | inl p ↦
            let e : ends (edge_at list c) xa cb ≡ true = subst (λ v. ends (edge_at list c) v cb ≡ true) p own in
            let tb = apart c xb (λ q. omega arith) (λ q. two p q) in
            done (linked list s cb xb) 0 (lean_a c cb sc (ends_touch (edge_at list c) xa cb e) tb (far_a (edge_at list c) xa p) (linked_from list s xa cb c lc sc e)) (lost_at c xa xb cb lc sc bb e (ends_own (edge_at list x)) off_a (not_end cb (λ q. omega arith) (λ q. two p q)))
        | inr p ↦ elim (cases_eq ca xb) [
          | inl q ↦
              let e : ends (edge_at list c) xb cb ≡ true = subst (λ v. ends (edge_at list c) v cb ≡ true) q own in
              let ta = apart c xa p (λ h. omega arith) in
              done (linked list s cb xa) 0 (lean_b c cb sc (ends_touch (edge_at list c) xb cb e) ta (far_a (edge_at list c) xb q) (linked_from list s xb cb c lc sc e)) (lost_at c xb xa cb lc sc (omega arith) e own_b off_b (not_end cb (λ h. omega arith) (λ h. omega arith)))
          | inr q ↦ elim (cases_eq cb xa) [
            | inl h ↦
                let e : ends (edge_at list c) xa ca ≡ true = subst (λ v. ends (edge_at list c) v ca ≡ true) h (ends_both (edge_at list c) cb ca ∙ own) in
                let tb = apart c xb q (λ k. omega arith) in
                done (linked list s ca xb) 0 (lean_a c ca sc (ends_touch (edge_at list c) xa ca e) tb (far_b (edge_at list c) xa lt h) (linked_from list s xa ca c lc sc e)) (lost_at c xa xb ca lc sc bb e (ends_own (edge_at list x)) off_a (not_end ca p q))
            | inr h ↦ elim (cases_eq cb xb) [
              | inl k ↦
                  let e : ends (edge_at list c) xb ca ≡ true = subst (λ v. ends (edge_at list c) v ca ≡ true) k (ends_both (edge_at list c) cb ca ∙ own) in
                  let ta = apart c xa p h in
                  done (linked list s ca xa) 0 (lean_b c ca sc (ends_touch (edge_at list c) xb ca e) ta (far_b (edge_at list c) xb lt k) (linked_from list s xb ca c lc sc e)) (lost_at c xb xa ca lc sc (omega arith) e own_b off_b (not_end ca p q))
              | inr k ↦ done false 0 (lean_none c (apart c xa p h) (apart c xb q k)) (kept_at c (not_end ca p q) (not_end cb h k))
            ]
          ]
        ]
      ]
    where
      kept_at : (c : ℕ) → ((w : ℕ) → ends (edge_at list x) (edge_at list c).a w ≡ false) → ((w : ℕ) → ends (edge_at list x) (edge_at list c).b w ≡ false) → common n list s c ≡ common n list (but s x) c + 0
      kept_at c f g = common_kept c f g ∙ sym (add-zero (common n list (but s x) c))

  -- no edge leans on both ends
  pub leans_once : (c : ℕ) → c < length list → leans (edge_at list x).a c ≡ true → leans (edge_at list x).b c ≡ true → ⊥
  unfolding xa xb
  leans_once c lc p q =
      let lt = smaller n list r c lc in
      let l2 = smaller n list r x lx in
      let ta = touching xa p in
      let tb = touching xb q in
      elim (touch_cases (edge_at list c) xa ta) [
        | inl ea ↦ elim (touch_cases (edge_at list c) xb tb) [
          | inl eb ↦ omega arith
          | inr eb ↦ both_ways (linked list s xb xb) (linked_self xb) (ap (linked list s xb) (sym (far_a (edge_at list c) xa ea ∙ eb)) ∙ farther xa p)
        ]
        | inr ea ↦ elim (touch_cases (edge_at list c) xb tb) [ inl eb ↦ omega arith | inr eb ↦ omega arith ]
      ]
    where
      touching : (u : ℕ) → leans u c ≡ true → touches (edge_at list c) u ≡ true
      touching u y = (and_parts (touches (edge_at list c) u) (linked list s xa (far (edge_at list c) u) && linked list s xb (far (edge_at list c) u)) (and_parts (s c) (touches (edge_at list c) u && (linked list s xa (far (edge_at list c) u) && linked list s xb (far (edge_at list c) u))) y).1).0

      farther : (u : ℕ) → leans u c ≡ true → linked list s xb (far (edge_at list c) u) ≡ true
      farther u y = (and_parts (linked list s xa (far (edge_at list c) u)) (linked list s xb (far (edge_at list c) u)) (and_parts (touches (edge_at list c) u) (linked list s xa (far (edge_at list c) u) && linked list s xb (far (edge_at list c) u)) (and_parts (s c) (touches (edge_at list c) u && (linked list s xa (far (edge_at list c) u) && linked list s xb (far (edge_at list c) u))) y).1).1).1

  pub edge_losers : (out : List ℕ) → count (has out) (length list) ≡ length out → ((c : ℕ) → s c ≡ true → c < length list) → ((c : ℕ) → has out c ≡ (leans (edge_at list x).a c || leans (edge_at list x).b c)) → Losers (common n list) (length list) s x out
  unfolding xa xb
  edge_losers out m inside h =
      record {
        many = m;
        member = λ c y. elim (or_cases (leans xa c) (leans xb c) (sym (h c) ∙ y)) [ inl z ↦ leaner xa c z | inr z ↦ leaner xb c z ];
        other = λ c y i. self_lean (subst (λ v. (leans xa v || leans xb v) ≡ true) i (sym (h c) ∙ y));
        less = λ c y ne. lost c (inside c y) y ne ∙ ap (λ (b : Bool). common n list (but s x) c + cond b 1 0) (sym (h c));
      }
    where
      leaner : (u c : ℕ) → leans u c ≡ true → s c ≡ true
      leaner u c y = (and_parts (s c) (touches (edge_at list c) u && (linked list s xa (far (edge_at list c) u) && linked list s xb (far (edge_at list c) u))) y).0

      far_lean : (u z : ℕ) → leans u x ≡ true → far (edge_at list x) u ≡ z → (linked list s xa z ≡ true) × (linked list s xb z ≡ true)
      far_lean u z y e =
          let p = (and_parts (s x) (touches (edge_at list x) u && (linked list s xa (far (edge_at list x) u) && linked list s xb (far (edge_at list x) u))) y).1 in
          let q = (and_parts (touches (edge_at list x) u) (linked list s xa (far (edge_at list x) u) && linked list s xb (far (edge_at list x) u)) p).1 in
          let k = and_parts (linked list s xa (far (edge_at list x) u)) (linked list s xb (far (edge_at list x) u)) q in
          (ap (linked list s xa) (sym e) ∙ k.0, ap (linked list s xb) (sym e) ∙ k.1)

      self_lean : (leans xa x || leans xb x) ≡ true → ⊥
      self_lean y =
          elim (or_cases (leans xa x) (leans xb x) y) [
            | inl z ↦ both_ways (linked list s xb xb) (linked_self xb) (far_lean xa xb z (far_a (edge_at list x) xa refl)).1
            | inr z ↦ both_ways (linked list s xa xa) (linked_self xa) (far_lean xb xa z (far_b (edge_at list x) xb (smaller n list r x lx) refl)).0
          ]

pub common_le : (n : ℕ) (list : List Edge) (s : ℕ → Bool) (i : ℕ) → common n list s i ≤ n
unfolding common shared
common_le n list s i = count_le (λ w. linked list s (edge_at list i).a w && linked list s (edge_at list i).b w) n
