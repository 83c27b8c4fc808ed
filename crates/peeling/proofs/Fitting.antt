-- Marks that are cleared first.
use Rattle.std.proofs.Common.{◌≡◌, ℕ, ◌≤◌, ltb, List, length, get_or, ◌∙◌, subst, arith}
use Rattle.std.proofs.lemmas.Bool.{cond-true, lt-ltb}
use Rattle.items.specs.Marks.{Clear, Wiped, Same}

pub wiped_clear : (n room : ℕ) (before after : List ℕ) → n ≡ room → room ≤ length after → Wiped n before after → Clear room after
wiped_clear n room before after e l w =
    record { fits = l; zero = λ k h. w k ∙ cond-true (ltb k n) 0 (get_or before k 0) (lt-ltb k n (omega arith)) }

pub wiped_then : (n room : ℕ) (before mid after last : List ℕ) → n ≡ room → Wiped n before mid → Same mid after → Same after last → Wiped room before last
wiped_then n room before mid after last e w s t =
    subst (λ v. Wiped v before last) e (λ k. t k ∙ s k ∙ w k)
