-- What a count of edges, or a laying of them one by one, keeps.
use Rattle.std.proofs.Common.{◌≡◌, ℕ, zero, suc, ◌+◌, ◌<◌, ◌≤◌, true, ◌⊎◌, List, [], ◌∷◌, ◌++◌, length, get_or, take, Some, None, sum, Option, sym, refl, ap, ◌∙◌, inl, inr, add-one, arith}
use Rattle.std.proofs.lemmas.List.Sums.{sum_by_more}
use Rattle.std.proofs.lemmas.Bool.{cases_eq}
use Rattle.std.proofs.lemmas.Bool.Decides.{nat_tests}
use Rattle.graph.specs.declared.edge.Edge.{Edge}
use Rattle.graph.specs.Edges.{latest, above, Rising}
use Rattle.listing.specs.Listing.{row_length, start, LaidRows}
use Rattle.listing.proofs.Starts.{start_all}

rising_push_behind : (n : ℕ) (p : Edge) (es : List Edge) (e : Edge) → Rising n (Some p) es → e.a < e.b → e.b < n → above (latest (p ∷ es)) e ≡ true → Rising n (Some p) (es ++ e ∷ [])
rising_push_behind n p [] e r x y z = (x, y, z, tt)
rising_push_behind n p (f ∷ es) e r x y z = (r.0, r.1, r.2, rising_push_behind n f es e r.3 x y z)

-- one more edge above the latest
pub rising_push : (n : ℕ) (es : List Edge) (e : Edge) → Rising n None es → e.a < e.b → e.b < n → above (latest es) e ≡ true → Rising n None (es ++ e ∷ [])
rising_push n [] e r x y z = (x, y, z, tt)
rising_push n (p ∷ es) e r x y z = (r.0, r.1, r.2, rising_push_behind n p es e r.3 x y z)

-- the first of rising edges rise
pub rising_front : (n : ℕ) (previous : Option Edge) (es fs : List Edge) → Rising n previous (es ++ fs) → Rising n previous es
rising_front n previous [] fs r = tt
rising_front n previous (e ∷ es) fs r = (r.0, r.1, r.2, rising_front n (Some e) es fs r.3)

pub row_append : (es fs : List Edge) (c : ℕ) → row_length (es ++ fs) c ≡ row_length es c + row_length fs c
row_append [] fs c = omega arith
row_append (e ∷ es) fs c = let h = row_append es fs c in omega arith

-- the rows of an edge still to come have a place left
pub row_room : (done rest : List Edge) (e : Edge) (c : ℕ) → (c ≡ e.a) ⊎ (c ≡ e.b) → row_length done c < row_length (done ++ e ∷ rest) c
row_room done rest e c w = let h = row_append done (e ∷ rest) c in grind (arith, nat_tests)

row_past_from : (n : ℕ) (previous : Option Edge) (es : List Edge) (c : ℕ) → Rising n previous es → n ≤ c → row_length es c ≡ 0
row_past_from n previous [] c r l = refl
row_past_from n previous (e ∷ es) c r l =
    let h = row_past_from n (Some e) es c r.3 l in let x = r.0 in let y = r.1 in grind (arith, nat_tests)

-- a number from n on has no row
pub row_past : (n : ℕ) (es : List Edge) (c : ℕ) → Rising n None es → n ≤ c → row_length es c ≡ 0
row_past n es c r l = row_past_from n None es c r l

row_le_from : (n : ℕ) (previous : Option Edge) (es : List Edge) (c : ℕ) → Rising n previous es → row_length es c ≤ length es
row_le_from n previous [] c r = omega arith
row_le_from n previous (e ∷ es) c r =
    let h = row_le_from n (Some e) es c r.3 in let x = r.0 in grind (arith, nat_tests)

-- an edge is in a row once
pub row_le : (n : ℕ) (es : List Edge) (c : ℕ) → Rising n None es → row_length es c ≤ length es
row_le n es c r = row_le_from n None es c r

-- where rows begin, from a list of how long they are
pub start_sum : (es : List Edge) (lengths : List ℕ) (c : ℕ) → c ≤ length lengths → ((i : ℕ) → i < c → get_or lengths i 0 ≡ row_length es i) → sum (take c lengths) ≡ start es c
unfolding start
start_sum es lengths zero l r = refl
start_sum es lengths (suc c) l r =
    let a : sum (take (suc c) lengths) ≡ sum (take c lengths) + get_or lengths c 0 = ap (λ (x : ℕ). sum (take x lengths)) (sym (add-one c)) ∙ sum_by_more (λ x. x) lengths c 0 (omega arith) in
    let b = start_sum es lengths c (omega arith) (λ i x. r i (omega arith)) in
    let d = r c (omega arith) in omega arith

-- rows of the same lengths begin at the same places
pub start_same : (es fs : List Edge) (c : ℕ) → ((d : ℕ) → d < c → row_length es d ≡ row_length fs d) → start es c ≡ start fs c
unfolding start
start_same es fs zero f = refl
start_same es fs (suc c) f =
    let h = start_same es fs c (λ d l. f d (omega arith)) in let k = f c (omega arith) in omega arith

pub start_le : (es fs : List Edge) (c : ℕ) → ((d : ℕ) → d < c → row_length es d ≤ row_length fs d) → start es c ≤ start fs c
unfolding start
start_le es fs zero f = omega arith
start_le es fs (suc c) f =
    let h = start_le es fs c (λ d l. f d (omega arith)) in let k = f c (omega arith) in omega arith

-- rows that fit, and take as much room in all, are full
pub rows_full : (es fs : List Edge) (n : ℕ) → ((d : ℕ) → d < n → row_length es d ≤ row_length fs d) → start es n ≡ start fs n → (c : ℕ) → c < n → row_length es c ≡ row_length fs c
unfolding start
rows_full es fs zero f e c l = absurd (omega arith)
rows_full es fs (suc n) f e c l =
    let h = start_le es fs n (λ d x. f d (omega arith)) in
    let k = f n (omega arith) in
    elim (cases_eq c n) [
      | inl i ↦ let y = ap (row_length es) i in let z = ap (row_length fs) i in omega arith
      | inr i ↦ rows_full es fs n (λ d x. f d (omega arith)) (omega arith) c (omega arith)
    ]

-- as many edges as were counted fill all rows
pub laid_full : (n : ℕ) (es done : List Edge) (ns : List ℕ) → LaidRows n es done ns → Rising n None es → Rising n None done → length done ≡ length es → (c : ℕ) → c < n → row_length done c ≡ row_length es c
laid_full n es done ns s r t e =
    rows_full done es n s.fits (omega (arith, start_all n es r, start_all n done t))

-- with all rows full, the edges done stand in rows of their own
pub laid_own : (n : ℕ) (es done : List Edge) (ns : List ℕ) → LaidRows n es done ns → ((c : ℕ) → c < n → row_length done c ≡ row_length es c) → LaidRows n done done ns
laid_own n es done ns s f =
    record {
      room = omega (arith, s.room, start_same done es n f);
      fits = λ c l. omega arith;
      filled = λ c i l x. let e = start_same done es c (λ d m. f d (omega arith)) in ap (λ (v : ℕ). get_or ns (v + i) 0) e ∙ s.filled c i l x;
    }
