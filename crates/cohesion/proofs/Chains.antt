-- Walking from edge to edge at one vertex, the last place first.
use Rattle.std.proofs.Common.{◌≡◌, ℕ, zero, suc, ◌+◌, ◌-◌, ◌<◌, ◌≤◌, Bool, true, false, not, ◌&&◌, ◌||◌, eqb, ltb, List, length, sym, refl, ap, ◌∙◌, subst, inl, inr, add-one, arith}
use Rattle.std.proofs.lemmas.Bool.{cases_Bool, cases_eq, cases_lt, both_ways, and_parts, and_from, or_cases, or_left, or_right, le-ltb, ltb-false, not-true, not_from_false, cond-true, cond-false}
use Rattle.std.proofs.lemmas.Bool.Decides.{nat_tests}
use Rattle.graph.specs.declared.edge.Edge.{Edge}
use Rattle.graph.specs.Edges.{ends}
use Rattle.cohesion.specs.Common.{edge_at, linked, touches, far, last_at}
use Rattle.cohesion.proofs.Places.{ends_touch, ends_far}
use Rattle.cohesion.proofs.Links.{linked_true, linked_from}

pub last_le : (list : List Edge) (u j : ℕ) → last_at list u j ≤ j
unfolding last_at
last_le list u zero = omega arith
last_le list u (suc j) = let h = last_le list u j in grind (arith, nat_tests)

-- between the last place and j no edge has the end u
pub last_gap : (list : List Edge) (u j i : ℕ) → last_at list u j ≤ i → i < j → touches (edge_at list i) u ≡ false
unfolding last_at
last_gap list u zero i l m = absurd (omega arith)
last_gap list u (suc j) i l m =
    elim (cases_Bool (touches (edge_at list j) u)) [
      | inl y ↦ absurd (omega (arith, cond-true (touches (edge_at list j) u) (suc j) (last_at list u j) y))
      | inr y ↦ elim (cases_eq i j) [
        | inl e ↦ ap (λ v. touches (edge_at list v) u) e ∙ y
        | inr e ↦ last_gap list u j i (omega (arith, cond-false (touches (edge_at list j) u) (suc j) (last_at list u j) y)) (omega arith)
      ]
    ]

pub last_here : (list : List Edge) (u j e : ℕ) → last_at list u j ≡ e + 1 → touches (edge_at list e) u ≡ true
unfolding last_at
last_here list u zero e q = absurd (omega arith)
last_here list u (suc j) e q =
    elim (cases_Bool (touches (edge_at list j) u)) [
      | inl y ↦ let z : j ≡ e = omega (arith, cond-true (touches (edge_at list j) u) (suc j) (last_at list u j) y) in ap (λ v. touches (edge_at list v) u) (sym z) ∙ y
      | inr y ↦ last_here list u j e (sym (cond-false (touches (edge_at list j) u) (suc j) (last_at list u j) y) ∙ q)
    ]

pub last_more_yes : (list : List Edge) (u j : ℕ) → touches (edge_at list j) u ≡ true → last_at list u (j + 1) ≡ j + 1
unfolding last_at
last_more_yes list u j y = rw add-one (cond-true (touches (edge_at list j) u) (suc j) (last_at list u j) y)

pub last_more_no : (list : List Edge) (u j : ℕ) → touches (edge_at list j) u ≡ false → last_at list u (j + 1) ≡ last_at list u j
unfolding last_at
last_more_no list u j y = rw add-one (cond-false (touches (edge_at list j) u) (suc j) (last_at list u j) y)

pub last_none : (list : List Edge) (u : ℕ) → last_at list u 0 ≡ 0
unfolding last_at
last_none list u = refl

-- a walk at u stands before place cur: what has the end u from there on has been met
pub record Walk (list : List Edge) (u cur : ℕ) : Type 0 where
  pub from : ℕ
  pub within : from ≤ length list
  pub at : cur ≡ last_at list u from

pub walk_start : (list : List Edge) (u cur : ℕ) → cur ≡ last_at list u (length list) → Walk list u cur
walk_start list u cur e = record { from = length list; within = omega arith; at = e }

pub walk_within : (list : List Edge) (u cur : ℕ) → Walk list u cur → cur ≤ length list
walk_within list u cur w = omega (arith, w.at, w.within, last_le list u w.from)

pub walk_here : (list : List Edge) (u cur : ℕ) → Walk list u cur → 0 < cur → touches (edge_at list (cur - 1)) u ≡ true
walk_here list u cur w l = last_here list u w.from (cur - 1) (let e : cur ≡ cur - 1 + 1 = omega arith in sym w.at ∙ e)

pub walk_next : (list : List Edge) (u cur next : ℕ) → Walk list u cur → 0 < cur → next ≡ last_at list u (cur - 1) → Walk list u next
walk_next list u cur next w l e = record { from = cur - 1; within = omega (arith, walk_within list u cur w); at = e }

-- the members of s from place cur on
unfoldable pub over : (ℕ → Bool) → ℕ → ℕ → Bool
over s cur i = s i && not (ltb i cur)

over_parts : (s : ℕ → Bool) (cur i : ℕ) → over s cur i ≡ true → (s i ≡ true) × (cur ≤ i)
unfolding over
over_parts s cur i y =
    let p = and_parts (s i) (not (ltb i cur)) y in (p.0, ltb-false i cur (not-true (ltb i cur) p.1))

over_from : (s : ℕ → Bool) (cur i : ℕ) → s i ≡ true → cur ≤ i → over s cur i ≡ true
unfolding over
over_from s cur i y l = and_from (s i) (not (ltb i cur)) y (not_from_false (ltb i cur) (le-ltb i cur l))

bools : (p q : Bool) → (p ≡ true → q ≡ true) → (q ≡ true → p ≡ true) → p ≡ q
bools p q f g =
    elim (cases_Bool p) [
      | inl y ↦ y ∙ sym (f y)
      | inr y ↦ elim (cases_Bool q) [ inl z ↦ absurd (both_ways p y (g z)) | inr z ↦ y ∙ sym z ]
    ]

-- the vertices met at u
abbrev pub met : List Edge → (ℕ → Bool) → ℕ → ℕ → ℕ → Bool
met list s u cur w = linked list (over s cur) u w

pub met_none : (list : List Edge) (s : ℕ → Bool) (u cur : ℕ) → cur ≡ last_at list u (length list) → (w : ℕ) → met list s u cur w ≡ false
met_none list s u cur e w =
    elim (cases_Bool (met list s u cur w)) [
      | inr y ↦ y
      | inl y ↦ absurd (let k = linked_true list (over s cur) u w y in
          both_ways (touches (edge_at list k.place) u) (last_gap list u (length list) k.place (omega (arith, (over_parts s cur k.place k.member).1)) k.within) (ends_touch (edge_at list k.place) u w k.joined))
    ]

pub met_all : (list : List Edge) (s : ℕ → Bool) (u w : ℕ) → met list s u 0 w ≡ linked list s u w
met_all list s u w =
    bools (met list s u 0 w) (linked list s u w)
    (λ y. let k = linked_true list (over s 0) u w y in linked_from list s u w k.place k.within (over_parts s 0 k.place k.member).0 k.joined)
    (λ y. let k = linked_true list s u w y in linked_from list (over s 0) u w k.place k.within (over_from s 0 k.place k.member (omega arith)) k.joined)

module _ (list : List Edge) (s : ℕ → Bool) (u cur next : ℕ) (wk : Walk list u cur) (pos : 0 < cur) (nx : next ≡ last_at list u (cur - 1)) where
  -- what is met at the next stand: what was met, and the far end of this edge if it lives
  met_more : (w : ℕ) → met list s u next w ≡ (met list s u cur w || (s (cur - 1) && ends (edge_at list (cur - 1)) u w))
  met_more w = bools (met list s u next w) (met list s u cur w || (s (cur - 1) && ends (edge_at list (cur - 1)) u w)) there back
    where
      e : ℕ
      e = cur - 1

      there : met list s u next w ≡ true → (met list s u cur w || (s (cur - 1) && ends (edge_at list (cur - 1)) u w)) ≡ true
      there y =
          let k = linked_true list (over s next) u w y in
          let m = over_parts s next k.place k.member in
          elim (cases_lt k.place (cur - 1)) [
            | inl l ↦ absurd (both_ways (touches (edge_at list k.place) u) (last_gap list u (cur - 1) k.place (omega (arith, m.1)) l) (ends_touch (edge_at list k.place) u w k.joined))
            | inr l ↦ elim (cases_eq k.place (cur - 1)) [
              | inl i ↦ or_right (met list s u cur w) (s (cur - 1) && ends (edge_at list (cur - 1)) u w) (subst (λ v. (s v && ends (edge_at list v) u w) ≡ true) i (and_from (s k.place) (ends (edge_at list k.place) u w) m.0 k.joined))
              | inr i ↦ or_left (met list s u cur w) (s (cur - 1) && ends (edge_at list (cur - 1)) u w) (linked_from list (over s cur) u w k.place k.within (over_from s cur k.place m.0 (omega arith)) k.joined)
            ]
          ]

      low : next ≤ cur - 1
      low = omega (arith, nx, last_le list u (cur - 1))

      back : (met list s u cur w || (s (cur - 1) && ends (edge_at list (cur - 1)) u w)) ≡ true → met list s u next w ≡ true
      back y =
          elim (or_cases (met list s u cur w) (s (cur - 1) && ends (edge_at list (cur - 1)) u w) y) [
            | inl z ↦ let k = linked_true list (over s cur) u w z in let m = over_parts s cur k.place k.member in
                linked_from list (over s next) u w k.place k.within (over_from s next k.place m.0 (omega (arith, low, m.1))) k.joined
            | inr z ↦ let m = and_parts (s (cur - 1)) (ends (edge_at list (cur - 1)) u w) z in
                linked_from list (over s next) u w (cur - 1) (omega (arith, walk_within list u cur wk)) (over_from s next (cur - 1) m.0 low) m.1
          ]

  pub met_yes : (x : ℕ) → (edge_at list (cur - 1)).a < (edge_at list (cur - 1)).b → x ≡ far (edge_at list (cur - 1)) u → s (cur - 1) ≡ true → (w : ℕ) → met list s u next w ≡ (met list s u cur w || eqb x w)
  met_yes x lt ex y w =
      let h = met_more w in
      let k = ends_far (edge_at list (cur - 1)) u w lt (walk_here list u cur wk pos) ∙ ap (λ v. eqb v w) (sym ex) in
      grind (arith, nat_tests)

  pub met_no : s (cur - 1) ≡ false → (w : ℕ) → met list s u next w ≡ met list s u cur w
  met_no y w = let h = met_more w in grind (arith, nat_tests)
