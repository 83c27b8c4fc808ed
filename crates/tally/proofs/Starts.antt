-- Where rows begin, one behind the other.
use Rattle.std.proofs.Common.{◌≡◌, ℕ, zero, suc, ◌+◌, ◌<◌, ◌≤◌, List, length, get_or, take, set, replicate, None, sum, sym, refl, ap, ◌∙◌, inl, inr, add-one, arith, get_or-set_other, get_or-set_same}
use Rattle.std.proofs.lemmas.List.{length-set, length-replicate, get_or-replicate, get_or_past}
use Rattle.std.proofs.lemmas.List.Sums.{sum_by_more, sum_by-take-le, get_or-le-sum_by}
use Rattle.std.proofs.lemmas.Bool.{cases_eq, cases_lt}
use Rattle.graph.specs.declared.edge.Edge.{Edge}
use Rattle.listing.specs.Listing.{row_length, start}
use Rattle.tally.specs.Within.{Within}
use Rattle.tally.specs.Counted.{Counted}
use Rattle.tally.specs.Begun.{Begun}
use Rattle.tally.specs.declared.state.Tally.{Tally}
use Rattle.tally.specs.declared.state.calls.Totals.{Totals}

pub record LayingOut (lengths next : List ℕ) (total i : ℕ) : Type 0 where
  pub long : length next ≡ 1024
  pub so_far : total ≡ sum (take i lengths)
  pub done : (c : ℕ) → c < i → get_or next c 0 ≡ sum (take c lengths)
  pub zeros : (c : ℕ) → i ≤ c → get_or next c 0 ≡ 0

pub out_none : (lengths : List ℕ) → LayingOut lengths (replicate 1024 0) 0 0
out_none lengths =
    record {
      long = length-replicate {A = ℕ} 1024 0;
      so_far = refl;
      done = λ c l. absurd (omega arith);
      zeros = λ c l. elim (cases_lt c 1024) [ inl h ↦ get_or-replicate 1024 c 0 0 h | inr h ↦ get_or_past (replicate 1024 0) c 0 (let z = length-replicate {A = ℕ} 1024 0 in omega arith) ];
    }

pub out_more : (lengths next : List ℕ) (total i : ℕ) → length lengths ≡ 1024 → i < 1024 → LayingOut lengths next total i → LayingOut lengths (set next i total) (total + get_or lengths i 0) (i + 1)
out_more lengths next total i l h s =
    let z = s.long in
    record {
      long = length-set next i total ∙ s.long;
      so_far = ap (λ (x : ℕ). x + get_or lengths i 0) s.so_far ∙ sym (sum_by_more (λ x. x) lengths i 0 (omega arith));
      done = λ c k. elim (cases_eq c i) [
        | inl e ↦ ap (λ (x : ℕ). get_or (set next i total) x 0) e ∙ get_or-set_same next i total 0 (omega arith) ∙ s.so_far ∙ ap (λ (x : ℕ). sum (take x lengths)) (sym e)
        | inr n ↦ get_or-set_other next i c total 0 n ∙ s.done c (omega arith)
      ];
      zeros = λ c k. get_or-set_other next i c total 0 (λ q. omega arith) ∙ s.zeros c (omega arith);
    }

pub out_fits : (lengths : List ℕ) (i k : ℕ) → length lengths ≡ 1024 → i < 1024 → sum lengths ≡ k + k → k ≤ 16384 → sum (take i lengths) + get_or lengths i 0 ≤ k + k
out_fits lengths i k l h e f =
    let a = sum_by_more (λ x. x) lengths i 0 (omega arith) in
    let b = sum_by-take-le (λ x. x) lengths (i + 1) in omega arith

pub out_within : (lengths next : List ℕ) (total n k : ℕ) → length lengths ≡ 1024 → n ≤ 1024 → LayingOut lengths next total n → sum lengths ≡ k + k → k ≤ 16384 → Within next lengths k
out_within lengths next total n k l h s e f c =
    elim (cases_lt c n) [
      | inl m ↦ let a = s.done c m in let b = out_fits lengths c k l (omega arith) e f in omega arith
      | inr m ↦ let a = s.zeros c m in
          elim (cases_lt c 1024) [
            | inl d ↦ let b = get_or-le-sum_by (λ x. x) lengths c 0 (omega arith) in omega arith
            | inr d ↦ let b = get_or_past lengths c 0 (omega arith) in omega arith
          ]
    ]

pub start_sum : (es : List Edge) (lengths : List ℕ) (c : ℕ) → length lengths ≡ 1024 → c ≤ 1024 → ((i : ℕ) → i < 1024 → get_or lengths i 0 ≡ row_length es i) → sum (take c lengths) ≡ start es c
unfolding start
start_sum es lengths zero l h r = refl
start_sum es lengths (suc c) l h r =
    let a : sum (take (suc c) lengths) ≡ sum (take c lengths) + get_or lengths c 0 = ap (λ (x : ℕ). sum (take x lengths)) (sym (add-one c)) ∙ sum_by_more (λ x. x) lengths c 0 (omega arith) in
    let b = start_sum es lengths c l (omega arith) r in
    let d = r c (omega arith) in
    a ∙ ap (λ (x : ℕ). x + get_or lengths c 0) b ∙ ap (λ (x : ℕ). start es c + x) d

pub begun : (n : ℕ) (es : List Edge) (t : Tally) (r : Totals) (total : ℕ) → Counted n es t → length t.lengths ≡ 1024 → t.n ≤ 1024 → r.n ≡ t.n → r.clashes ≡ t.clashes → r.laying.n ≡ t.n → r.laying.clashes ≡ t.clashes → r.laying.previous ≡ None → r.laying.left ≡ t.lengths → LayingOut t.lengths r.laying.next total t.n → Begun n es r
begun n es t r total s l h e1 e2 e3 e4 e5 e6 o =
    let z = s.size in
    record {
      size = e1 ∙ s.size;
      count = e2 ∙ s.count;
      laying = record {
        size = e3 ∙ s.size;
        count = e4 ∙ s.count;
        last = e5;
        next = λ c k. let a = o.done c (omega arith) in let b = start_sum es t.lengths c l (omega arith) s.rows in omega arith;
        left = λ c k. let a = s.rows c (omega arith) in let b = ap (λ (xs : List ℕ). get_or xs c 0) e6 in omega arith;
      };
    }
