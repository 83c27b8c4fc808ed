use Rattle.std.proofs.Common.{◌≡◌, ℕ, zero, suc, ◌+◌, min, Bool, false, eqb, cond, List, [], ◌∷◌, ◌++◌, map, get_or, Some, None, Option, MatchOption, refl, sym, ap, ◌∙◌, subst, inl, inr, arith, rules, tests}
use Rattle.std.proofs.lemmas.Bool.{cases_Bool, eqb-true, both_ways, eq-eqb}
use Rattle.std.proofs.lemmas.List.{map-append, append-nil}
use Rattle.std.proofs.lemmas.Iterator.{YieldsList-from_range, YieldsList-from_map}
use Rattle.std.proofs.lemmas.Iterator.Adapters.{option_map_id}
use Rattle.std.proofs.lemmas.Iterator.Consumers.{YieldsList-at, min_from_yields_List}
use Rattle.std.specs.List.{fold, reduce}
use Rattle.finite.specs.Finite.{members}
use Rattle.finite.proofs.Chains.{members_from_filter}
use Rattle.supports.specs.Peel.{alive}
use Rattle.supports.proofs.Descents.{LowestCount}
use Rattle.supports.proofs.Tables.{none_zero, none_more, lowest_first, lowest_skip, lowest_min}
use Rattle.peeling.proofs.tables.lowest.Goals as goal

fold_push : (xs : List ℕ) (a y : ℕ) → fold min a (xs ++ y ∷ []) ≡ min (fold min a xs) y
fold_push [] a y = refl
fold_push (x ∷ xs) a y = fold_push xs (min a x) y

best : Option ℕ → ℕ → ℕ
best None y = y
best (Some m) y = min m y

reduce_push : (xs : List ℕ) (y : ℕ) → reduce min (xs ++ y ∷ []) ≡ Some (best (reduce min xs) y)
unfolding best
reduce_push [] y = refl
reduce_push (x ∷ xs) y = ap (λ (v : ℕ). Some v) (fold_push xs x y)

abbrev Found : List ℕ → List ℕ → ℕ → Option ℕ → Type 0
Found living counts n o = MatchOption o ((k : ℕ) → alive n living k ≡ false) (LowestCount n living counts)

more : (living counts : List ℕ) (n : ℕ) (o : Option ℕ) → Found living counts n o → get_or living n 0 ≡ 1 → Found living counts (n + 1) (Some (best o (get_or counts n 0)))
unfolding best
more living counts n None h y = lowest_first n living counts h y
more living counts n (Some m) h y = lowest_min n living counts m (min m (get_or counts n 0)) h y refl

less : (living counts : List ℕ) (n : ℕ) (o : Option ℕ) → Found living counts n o → (get_or living n 0 ≡ 1 → ⊥) → Found living counts (n + 1) o
less living counts n None h ne = none_more n living h ne
less living counts n (Some m) h ne = lowest_skip n living counts m h (λ e. absurd (ne e))

chosen : (living counts : List ℕ) (n : ℕ) → Found living counts n (reduce min (map (λ c. get_or counts c 0) (members (λ c. eqb (get_or living c 0) 1) n)))
unfolding members
chosen living counts zero = none_zero living
chosen living counts (suc n) =
    let p : ℕ → Bool = λ c. eqb (get_or living c 0) 1 in
    let f : ℕ → ℕ = λ c. get_or counts c 0 in
    let xs = map f (members p n) in
    let t : n + 1 ≡ suc n = omega arith in
    let all = ap (reduce min) (map-append f (members p n) (cond (p n) (n ∷ []) [])) in
    elim (cases_Bool (p n)) [
      | inl y ↦
          let e : reduce min (map f (members p n ++ cond (p n) (n ∷ []) [])) ≡ Some (best (reduce min xs) (f n)) = all ∙ ap (λ (v : Bool). reduce min (xs ++ map f (cond v (n ∷ []) []))) y ∙ reduce_push xs (f n) in
          rw e (subst (λ (m : ℕ). Found living counts m (Some (best (reduce min xs) (f n)))) t (more living counts n (reduce min xs) (chosen living counts n) (eqb-true (get_or living n 0) 1 y)))
      | inr y ↦
          let e : reduce min (map f (members p n ++ cond (p n) (n ∷ []) [])) ≡ reduce min xs = all ∙ ap (λ (v : Bool). reduce min (xs ++ map f (cond v (n ∷ []) []))) y ∙ ap (reduce min) (append-nil xs) in
          rw e (subst (λ (m : ℕ). Found living counts m (reduce min xs)) t (less living counts n (reduce min xs) (chosen living counts n) (λ z. both_ways (p n) y (eq-eqb (get_or living n 0) 1 z))))
    ]

pub returns : goal.returns
returns c =
    let living = c.args.living.now in
    let counts = c.args.counts.now in
    let n = c.args.n in
    let p : ℕ → Bool = λ k. eqb (get_or living k 0) 1 in
    let f : ℕ → ℕ = λ k. get_or counts k 0 in
    let e = sym (option_map_id c.min.result) ∙ min_from_yields_List c.map.result c.min.result c.min.ensures.ran (YieldsList-from_map _ f (YieldsList-at c.map.ensures.source (members_from_filter _ p n (YieldsList-from_range 0 n n (cc) (omega arith)) c.filter.ensures.closure (λ x r q k. search (rules, tests)))) c.map.ensures.closure (λ x r q k. search (rules, tests))) in
    subst (Found living counts n) (sym e) (chosen living counts n)
