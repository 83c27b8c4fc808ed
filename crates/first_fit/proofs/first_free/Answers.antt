use Rattle.std.proofs.Common.{◌≡◌, ℕ, ◌<◌, ◌≤◌, false, true, get_or, length, MatchOption, Option, Some, None, arith, rules, tests}
use Rattle.std.specs.Option.{unwrap_or}
use Rattle.std.proofs.lemmas.Iterator.{first_from_Range}
use Rattle.first_fit.proofs.first_free.Goals as goal

before_first : (r : Option ℕ) (n v : ℕ) (Yes No : ℕ → Type 0) → MatchOption r ((k : ℕ) → 1 ≤ k → k < n → No k) (λ i. (1 ≤ i) × (i < n) × Yes i × ((k : ℕ) → 1 ≤ k → k < i → No k)) → v ≡ unwrap_or r n → (j : ℕ) → 1 ≤ j → j < v → No j
before_first None n v Yes No h e j a b = h j a (omega (arith, e))
before_first (Some i) n v Yes No h e j a b = h.3 j a (omega (arith, e))

pub returns-clause-before : goal.returns-clause-before
returns-clause-before c =
    let s = c.args.taken.now in
    let Yes : ℕ → Type 0 = λ k. get_or s k false ≡ false in
    let No : ℕ → Type 0 = λ k. get_or s k false ≡ true in
    before_first c.find.result (length s) c.unwrap_or.result Yes No (first_from_Range _ _ _ c.find.result Yes No c.find.ensures.ran (λ x q k. search (rules, tests)) (λ x q k. search (rules, tests))) c.unwrap_or.ensures
