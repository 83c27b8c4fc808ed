-- One edge laid, or refused.
use Rattle.std.proofs.Common.{◌≡◌, ℕ, ◌+◌, ◌-◌, ◌<◌, ◌≤◌, true, false, cond, ◌&&◌, ◌||◌, eqb, ltb, leb, ◌⊎◌, List, [], ◌∷◌, ◌++◌, length, get_or, set, Some, None, sym, refl, ap, ◌∙◌, inl, inr, arith, get_or-set_other, get_or-set_same}
use Rattle.std.proofs.lemmas.List.{length-set}
use Rattle.std.proofs.lemmas.Bool.{cases_eq, eq-eqb, ne_eqb, le-leb, lt-leb, lt-ltb, le-ltb, or_left, or_right, or_from, and_from, and_left, and_right}
use Rattle.graph.specs.declared.edge.Edge.{Edge}
use Rattle.graph.specs.declared.refusal.Refusal.TheVariants.{OutOfRange, ShortBuffer, Unordered, Miscounted}
use Rattle.graph.specs.Edges.{edge, latest, above}
use Rattle.graph.proofs.Edges.{latest_push}
use Rattle.listing.specs.Listing.{row_length, start}
use Rattle.listing.proofs.Starts.{row_push}
use Rattle.tally.specs.Laid.{Laid, laying}
use Rattle.tally.specs.declared.laying.Laying.{Laying}
use Rattle.tally.proofs.Counts.{twice, get_or-twice}

-- what the tests say before the rows are looked at
pub record Placed (n : ℕ) (es : List Edge) (room a b : ℕ) : Type 0 where
  pub room_is : length es + length es ≤ room
  pub first : a < n
  pub second : b < n

pub fault_room : (n : ℕ) (es done : List Edge) (room a b : ℕ) → room < length es + length es → laying n es done room a b ≡ Some ShortBuffer
unfolding laying
fault_room n es done room a b l = rw (lt-ltb room (length es + length es) l) refl

pub fault_outside : (n : ℕ) (es done : List Edge) (room a b : ℕ) → length es + length es ≤ room → (n ≤ a) ⊎ (n ≤ b) → laying n es done room a b ≡ Some OutOfRange
unfolding laying
fault_outside n es done room a b l w =
    let f : (leb n a || leb n b) ≡ true = elim w [ inl x ↦ or_left (leb n a) (leb n b) (le-leb n a x) | inr x ↦ or_right (leb n a) (leb n b) (le-leb n b x) ] in
    rw (le-ltb room (length es + length es) l, f) refl

inside : (n : ℕ) (es : List Edge) (room a b : ℕ) → Placed n es room a b → (leb n a || leb n b) ≡ false
inside n es room a b p = or_from (leb n a) (leb n b) (lt-leb n a p.first) (lt-leb n b p.second)

pub fault_order : (n : ℕ) (es done : List Edge) (room a b : ℕ) → Placed n es room a b → (b ≤ a) ⊎ (above (latest done) (edge a b) ≡ false) → laying n es done room a b ≡ Some Unordered
unfolding laying
fault_order n es done room a b p w =
    let f : (ltb a b && above (latest done) (edge a b)) ≡ false = elim w [ inl x ↦ and_left (ltb a b) (above (latest done) (edge a b)) (le-ltb a b x) | inr x ↦ and_right (ltb a b) (above (latest done) (edge a b)) x ] in
    rw (le-ltb room (length es + length es) p.room_is, inside n es room a b p, f) refl

pub fault_full : (n : ℕ) (es done : List Edge) (room a b : ℕ) → Placed n es room a b → a < b → above (latest done) (edge a b) ≡ true → (row_length es a ≤ row_length done a) ⊎ (row_length es b ≤ row_length done b) → laying n es done room a b ≡ Some Miscounted
unfolding laying
fault_full n es done room a b p d u w =
    let x = leb (row_length es a) (row_length done a) in
    let y = leb (row_length es b) (row_length done b) in
    let f : (x || y) ≡ true = elim w [ inl h ↦ or_left x y (le-leb (row_length es a) (row_length done a) h) | inr h ↦ or_right x y (le-leb (row_length es b) (row_length done b) h) ] in
    rw (le-ltb room (length es + length es) p.room_is, inside n es room a b p, and_from (ltb a b) (above (latest done) (edge a b)) (lt-ltb a b d) u, f) refl

pub fault_none : (n : ℕ) (es done : List Edge) (room a b : ℕ) → Placed n es room a b → a < b → above (latest done) (edge a b) ≡ true → row_length done a < row_length es a → row_length done b < row_length es b → laying n es done room a b ≡ None
unfolding laying
fault_none n es done room a b p d u x y =
    rw (le-ltb room (length es + length es) p.room_is, inside n es room a b p, and_from (ltb a b) (above (latest done) (edge a b)) (lt-ltb a b d) u, or_from (leb (row_length es a) (row_length done a)) (leb (row_length es b) (row_length done b)) (lt-leb (row_length es a) (row_length done a) x) (lt-leb (row_length es b) (row_length done b) y)) refl

pub get_or-lower : (xs : List ℕ) (a b c : ℕ) → a < length xs → b < length xs → a < b → 0 < get_or xs a 0 → 0 < get_or xs b 0 → get_or xs c 0 ≡ get_or (set (set xs a (get_or xs a 0 - 1)) b (get_or (set xs a (get_or xs a 0 - 1)) b 0 - 1)) c 0 + cond (eqb c a) 1 0 + cond (eqb c b) 1 0
get_or-lower xs a b c l m d x y =
    let ys = set xs a (get_or xs a 0 - 1) in
    let z = length-set xs a (get_or xs a 0 - 1) in
    let t : get_or ys b 0 ≡ get_or xs b 0 = get_or-set_other xs a b (get_or xs a 0 - 1) 0 (λ q. omega arith) in
    elim (cases_eq c b) [
      | inl e ↦ let f = ne_eqb c a (λ q. omega arith) in
          let s : get_or (set ys b (get_or ys b 0 - 1)) c 0 ≡ get_or ys b 0 - 1 = ap (λ (i : ℕ). get_or (set ys b (get_or ys b 0 - 1)) i 0) e ∙ get_or-set_same ys b (get_or ys b 0 - 1) 0 (omega arith) in
          let u = ap (λ (i : ℕ). get_or xs i 0) e in
          rw (f, eq-eqb c b e) (omega arith)
      | inr n ↦ let s = get_or-set_other ys b c (get_or ys b 0 - 1) 0 n in
          elim (cases_eq c a) [
            | inl e ↦ let v : get_or ys c 0 ≡ get_or xs a 0 - 1 = ap (λ (i : ℕ). get_or ys i 0) e ∙ get_or-set_same xs a (get_or xs a 0 - 1) 0 l in
                let u = ap (λ (i : ℕ). get_or xs i 0) e in
                rw (eq-eqb c a e, ne_eqb c b n) (omega arith)
            | inr k ↦ let v = get_or-set_other xs a c (get_or xs a 0 - 1) 0 k in
                rw (ne_eqb c a k, ne_eqb c b n) (omega arith)
          ]
    ]

-- the state behind one more edge
pub laid_on : (n : ℕ) (es done : List Edge) (t u : Laying) (a b : ℕ) → Laid n es done t → length t.next ≡ 1024 → length t.left ≡ 1024 → a < b → b < 1024 → 0 < get_or t.left a 0 → 0 < get_or t.left b 0 → u.n ≡ t.n → u.clashes ≡ t.clashes → u.previous ≡ Some (edge a b) → u.next ≡ set (set t.next a (get_or t.next a 0 + 1)) b (get_or (set t.next a (get_or t.next a 0 + 1)) b 0 + 1) → u.left ≡ set (set t.left a (get_or t.left a 0 - 1)) b (get_or (set t.left a (get_or t.left a 0 - 1)) b 0 - 1) → Laid n es (done ++ edge a b ∷ []) u
unfolding twice
laid_on n es done t u a b s l1 l2 d m x y e1 e2 e3 e4 e5 =
    record {
      size = e1 ∙ s.size;
      count = e2 ∙ s.count;
      last = e3 ∙ sym (latest_push done (edge a b));
      next = λ c k. let p = row_push done (edge a b) c in
          let q = ap (λ (xs : List ℕ). get_or xs c 0) e4 ∙ get_or-twice t.next a b c (omega arith) (omega arith) d in
          let h = s.next c k in omega arith;
      left = λ c k. let p = row_push done (edge a b) c in
          let q = get_or-lower t.left a b c (omega arith) (omega arith) d x y in
          let r = ap (λ (xs : List ℕ). get_or xs c 0) e5 in
          let h = s.left c k in omega arith;
    }

-- the places that are written
pub places_on : (n : ℕ) (es done : List Edge) (t : Laying) (before after : List ℕ) (a b : ℕ) → Laid n es done t → a < n → b < n → after ≡ set (set before (get_or t.next a 0) b) (get_or t.next b 0) a → after ≡ set (set before (start es a + row_length done a) b) (start es b + row_length done b) a
places_on n es done t before after a b s l m e =
    e ∙ ap (λ (x : ℕ). set (set before x b) (get_or t.next b 0) a) (s.next a l) ∙ ap (λ (x : ℕ). set (set before (start es a + row_length done a) b) x a) (s.next b m)
