-- Rows grow as edges are counted.
use Rattle.std.proofs.Common.{◌≡◌, ℕ, ◌+◌, ◌<◌, ◌≤◌, true, false, cond, ◌&&◌, ◌||◌, eqb, ltb, leb, ◌⊎◌, List, [], ◌∷◌, ◌++◌, length, get_or, set, replicate, Some, None, sum, sym, refl, ap, ◌∙◌, inl, inr, arith, get_or-set_other, get_or-set_same}
use Rattle.std.proofs.lemmas.List.{length-set, length_push, get_or-replicate}
use Rattle.std.proofs.lemmas.List.Sums.{sum_by-set, get_or-le-sum_by}
use Rattle.std.proofs.lemmas.Bool.{cases_eq, eq-eqb, ne_eqb, le-leb, lt-leb, lt-ltb, le-ltb, or_left, or_right, or_from, and_from, and_left, and_right}
use Rattle.graph.specs.declared.edge.Edge.{Edge}
use Rattle.graph.specs.declared.refusal.Refusal.TheVariants.{OutOfRange, Unordered, TooLarge}
use Rattle.graph.specs.Edges.{edge, latest, above}
use Rattle.graph.proofs.Edges.{latest_push}
use Rattle.listing.proofs.Starts.{row_push}
use Rattle.tally.specs.Counted.{Counted, counting}
use Rattle.tally.specs.declared.state.Tally.{Tally}

-- both rows of a clash, one longer
unfoldable pub twice : List ℕ → ℕ → ℕ → List ℕ
twice xs a b = set (set xs a (get_or xs a 0 + 1)) b (get_or (set xs a (get_or xs a 0 + 1)) b 0 + 1)

pub twice_is : (xs : List ℕ) (a b : ℕ) → twice xs a b ≡ set (set xs a (get_or xs a 0 + 1)) b (get_or (set xs a (get_or xs a 0 + 1)) b 0 + 1)
unfolding twice
twice_is xs a b = refl

pub sum_once : (xs : List ℕ) (a : ℕ) → a < length xs → sum (set xs a (get_or xs a 0 + 1)) ≡ sum xs + 1
sum_once xs a l = let h = sum_by-set (λ x. x) xs a (get_or xs a 0 + 1) 0 l in omega arith

pub sum_twice : (xs : List ℕ) (a b : ℕ) → a < length xs → b < length xs → sum (twice xs a b) ≡ sum xs + 2
unfolding twice
sum_twice xs a b l m =
    let h = sum_once xs a l in
    let z = length-set xs a (get_or xs a 0 + 1) in
    let k = sum_once (set xs a (get_or xs a 0 + 1)) b (omega arith) in omega arith

pub get_or-twice : (xs : List ℕ) (a b c : ℕ) → a < length xs → b < length xs → a < b → get_or (twice xs a b) c 0 ≡ get_or xs c 0 + cond (eqb c a) 1 0 + cond (eqb c b) 1 0
unfolding twice
get_or-twice xs a b c l m d =
    let ys = set xs a (get_or xs a 0 + 1) in
    let z = length-set xs a (get_or xs a 0 + 1) in
    elim (cases_eq c b) [
      | inl e ↦ let f = ne_eqb c a (λ q. omega arith) in
          let s : get_or (set ys b (get_or ys b 0 + 1)) c 0 ≡ get_or ys b 0 + 1 = ap (λ (i : ℕ). get_or (set ys b (get_or ys b 0 + 1)) i 0) e ∙ get_or-set_same ys b (get_or ys b 0 + 1) 0 (omega arith) in
          let t : get_or ys b 0 ≡ get_or xs b 0 = get_or-set_other xs a b (get_or xs a 0 + 1) 0 (λ q. omega arith) in
          let u = ap (λ (i : ℕ). get_or xs i 0) e in
          rw (f, eq-eqb c b e) (omega arith)
      | inr n ↦ let s = get_or-set_other ys b c (get_or ys b 0 + 1) 0 n in
          elim (cases_eq c a) [
            | inl e ↦ let t : get_or ys c 0 ≡ get_or xs a 0 + 1 = ap (λ (i : ℕ). get_or ys i 0) e ∙ get_or-set_same xs a (get_or xs a 0 + 1) 0 l in
                let u = ap (λ (i : ℕ). get_or xs i 0) e in
                rw (eq-eqb c a e, ne_eqb c b n) (omega arith)
            | inr k ↦ let t = get_or-set_other xs a c (get_or xs a 0 + 1) 0 k in
                rw (ne_eqb c a k, ne_eqb c b n) (omega arith)
          ]
    ]

pub row_small : (xs : List ℕ) (a k : ℕ) → a < length xs → sum xs ≡ k + k → k ≤ 16384 → get_or xs a 0 ≤ 32768
row_small xs a k l e h = let z = get_or-le-sum_by (λ x. x) xs a 0 l in omega arith

pub counted_none : (n : ℕ) (t : Tally) → t.n ≡ n → t.clashes ≡ 0 → t.previous ≡ None → t.lengths ≡ replicate 1024 0 → Counted n [] t
counted_none n t a b d e =
    record { size = a; count = b; last = d; rows = λ c l. ap (λ xs. get_or xs c 0) e ∙ get_or-replicate 1024 c 0 0 l }

pub counted_more : (n : ℕ) (es : List Edge) (t u : Tally) (a b : ℕ) → Counted n es t → length t.lengths ≡ 1024 → u.n ≡ t.n → u.clashes ≡ t.clashes + 1 → u.previous ≡ Some (edge a b) → u.lengths ≡ twice t.lengths a b → a < b → b < 1024 → Counted n (es ++ edge a b ∷ []) u
counted_more n es t u a b s z e1 e2 e3 e4 l m =
    record {
      size = e1 ∙ s.size;
      count = e2 ∙ ap (λ (x : ℕ). x + 1) s.count ∙ sym (length_push es (edge a b));
      last = e3 ∙ sym (latest_push es (edge a b));
      rows = λ c k. let g = get_or-twice t.lengths a b c (omega arith) (omega arith) l in let h = s.rows c k in let p = row_push es (edge a b) c in
          ap (λ xs. get_or xs c 0) e4 ∙ g ∙ ap (λ (x : ℕ). x + cond (eqb c a) 1 0 + cond (eqb c b) 1 0) h ∙ sym p;
    }

pub counting_outside : (n : ℕ) (es : List Edge) (a b : ℕ) → (n ≤ a) ⊎ (n ≤ b) → counting n es a b ≡ Some OutOfRange
unfolding counting
counting_outside n es a b w =
    let f : (leb n a || leb n b) ≡ true = elim w [ inl x ↦ or_left (leb n a) (leb n b) (le-leb n a x) | inr x ↦ or_right (leb n a) (leb n b) (le-leb n b x) ] in
    rw f refl

pub counting_order : (n : ℕ) (es : List Edge) (a b : ℕ) → a < n → b < n → (b ≤ a) ⊎ (above (latest es) (edge a b) ≡ false) → counting n es a b ≡ Some Unordered
unfolding counting
counting_order n es a b l m w =
    let f : (ltb a b && above (latest es) (edge a b)) ≡ false = elim w [ inl x ↦ and_left (ltb a b) (above (latest es) (edge a b)) (le-ltb a b x) | inr x ↦ and_right (ltb a b) (above (latest es) (edge a b)) x ] in
    rw (or_from (leb n a) (leb n b) (lt-leb n a l) (lt-leb n b m), f) refl

pub counting_many : (n : ℕ) (es : List Edge) (a b : ℕ) → a < n → b < n → a < b → above (latest es) (edge a b) ≡ true → 16384 ≤ length es → counting n es a b ≡ Some TooLarge
unfolding counting
counting_many n es a b l m d u k =
    rw (or_from (leb n a) (leb n b) (lt-leb n a l) (lt-leb n b m), and_from (ltb a b) (above (latest es) (edge a b)) (lt-ltb a b d) u, le-leb 16384 (length es) k) refl

pub counting_none : (n : ℕ) (es : List Edge) (a b : ℕ) → a < n → b < n → a < b → above (latest es) (edge a b) ≡ true → length es < 16384 → counting n es a b ≡ None
unfolding counting
counting_none n es a b l m d u k =
    rw (or_from (leb n a) (leb n b) (lt-leb n a l) (lt-leb n b m), and_from (ltb a b) (above (latest es) (edge a b)) (lt-ltb a b d) u, lt-leb 16384 (length es) k) refl

pub sum_grown : (xs : List ℕ) (a b k : ℕ) → a < length xs → b < length xs → sum xs ≡ k + k → sum (set (set xs a (get_or xs a 0 + 1)) b (get_or (set xs a (get_or xs a 0 + 1)) b 0 + 1)) ≡ (k + 1) + (k + 1)
sum_grown xs a b k l m e =
    let h = sum_twice xs a b l m in let z = ap sum (twice_is xs a b) in omega arith

pub row_still : (xs : List ℕ) (a b k : ℕ) → b < length xs → a < b → sum xs ≡ k + k → k ≤ 16384 → get_or (set xs a (get_or xs a 0 + 1)) b 0 ≤ 32768
row_still xs a b k l d e h =
    let t = get_or-set_other xs a b (get_or xs a 0 + 1) 0 (λ q. omega arith) in
    let u = row_small xs b k l e h in omega arith
