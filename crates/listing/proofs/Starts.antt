-- Where rows begin, one behind the other.
use Rattle.std.proofs.Common.{◌≡◌, ℕ, zero, suc, ◌+◌, ◌<◌, ◌≤◌, Bool, cond, eqb, ltb, List, [], ◌∷◌, ◌++◌, length, Some, None, Option, refl, ap, inl, inr, add-one, arith}
use Rattle.std.proofs.lemmas.Bool.{cases_eq, cases_order, lt-ltb}
use Rattle.std.proofs.lemmas.Bool.Decides.{nat_tests}
use Rattle.graph.specs.declared.edge.Edge.{Edge}
use Rattle.graph.specs.Edges.{Rising}
use Rattle.listing.specs.Listing.{row_length, start}

pub row_push : (es : List Edge) (e : Edge) (c : ℕ) → row_length (es ++ e ∷ []) c ≡ row_length es c + cond (eqb c e.a) 1 0 + cond (eqb c e.b) 1 0
row_push [] e c = omega arith
row_push (x ∷ es) e c = let h = row_push es e c in omega arith

pub start_none : (es : List Edge) → start es 0 ≡ 0
unfolding start
start_none es = refl

pub start_more : (es : List Edge) (c : ℕ) → start es (c + 1) ≡ start es c + row_length es c
unfolding start
start_more es c = rw add-one refl

pub start_up : (es : List Edge) (c d : ℕ) → c ≤ d → start es c ≤ start es d
unfolding start
start_up es c zero l = let e : c ≡ 0 = omega arith in let h = ap (start es) e in omega arith
start_up es c (suc d) l =
    elim (cases_eq c (suc d)) [
      | inl e ↦ let h = ap (start es) e in omega arith
      | inr e ↦ let h = start_up es c d (omega arith) in omega arith
    ]

-- a place of row c is before the next row
pub place_before : (es : List Edge) (c d i : ℕ) → c < d → i < row_length es c → start es c + i < start es d
place_before es c d i l x =
    let h = start_up es (c + 1) d (omega arith) in let k = start_more es c in omega arith

pub places_apart : (es : List Edge) (c d i j : ℕ) → c < d → i < row_length es c → start es c + i < start es d + j
places_apart es c d i j l x = let h = place_before es c d i l x in omega arith

-- a place is in one row, at one index
pub place_one : (es : List Edge) (c d i j : ℕ) → i < row_length es c → j < row_length es d → start es c + i ≡ start es d + j → (c ≡ d) × (i ≡ j)
place_one es c d i j x y e =
    elim (cases_order c d) [
      | inl h ↦ (h, let z = ap (start es) h in omega arith)
      | inr o ↦ elim o [ inl h ↦ let z = places_apart es c d i j h x in absurd (omega arith) | inr h ↦ let z = places_apart es d c j i h y in absurd (omega arith) ]
    ]

-- an edge adds a place to the row of each end
start_cons : (e : Edge) (es : List Edge) (m : ℕ) → start (e ∷ es) m ≡ start es m + cond (ltb e.a m) 1 0 + cond (ltb e.b m) 1 0
unfolding start
start_cons e es zero = grind (arith, nat_tests)
start_cons e es (suc m) = let h = start_cons e es m in grind (arith, nat_tests)

start_empty : (m : ℕ) → start [] m ≡ 0
unfolding start
start_empty zero = refl
start_empty (suc m) = let h = start_empty m in omega arith

start_all_from : (n : ℕ) (previous : Option Edge) (es : List Edge) → Rising n previous es → start es n ≡ length es + length es
start_all_from n previous [] r = start_empty n
start_all_from n previous (e ∷ es) r =
    let h = start_all_from n (Some e) es r.3 in
    let k = start_cons e es n in
    let x = ap (λ (v : Bool). cond {A = ℕ} v 1 0) (lt-ltb e.a n (omega (arith, r.0, r.1))) in
    let y = ap (λ (v : Bool). cond {A = ℕ} v 1 0) (lt-ltb e.b n r.1) in omega arith

-- each edge has two ends
pub start_all : (n : ℕ) (es : List Edge) → Rising n None es → start es n ≡ length es + length es
start_all n es r = start_all_from n None es r
