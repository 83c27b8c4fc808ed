-- The living, as vertices are taken out one by one.
use Rattle.std.proofs.Common.{◌≡◌, ℕ, ◌+◌, ◌<◌, true, ◌⊎◌, List, length, get_or, take, sym, ap, ◌∙◌, inl, inr, arith}
use Rattle.std.proofs.lemmas.List.{take_more}
use Rattle.std.proofs.lemmas.Bool.{cases_Bool, cases_order, both_ways}
use Rattle.finite.specs.Finite.{has}
use Rattle.finite.proofs.Counts.{has_true}
use Rattle.graph.specs.Graph.{Graph, held}
use Rattle.degeneracy.specs.Order.{survivors}
use Rattle.degeneracy.proofs.Orders.{survivors_from, survivors_other}
use Rattle.degeneracy.proofs.Plans.{gone_after}
use Rattle.peels.specs.Peels.{Taken}

-- from place i to i + 1 only what stands there goes
pub lives_more : (g : Graph) (p : List ℕ) (i c : ℕ) → i < length p → (c ≡ get_or p i 0 → ⊥) → survivors g (take i p) c ≡ survivors g (take (i + 1) p) c
lives_more g p i c l ne =
    survivors_other g (take i p) (get_or p i 0) c ne ∙ ap (λ t. survivors g t c) (sym (take_more p i 0 l))

-- a vertex is in the list at most once
pub taken_once : (g : Graph) (p : List ℕ) (i j : ℕ) → Taken g p → i < length p → j < length p → get_or p i 0 ≡ get_or p j 0 → i ≡ j
taken_once g p i j t l m e =
    elim (cases_order i j) [
      | inl q ↦ q
      | inr o ↦ elim o [
        | inl h ↦ absurd (both_ways (survivors g (take j p) (get_or p j 0)) (ap (survivors g (take j p)) (sym e) ∙ gone_after g p i j h (omega arith)) (t j m))
        | inr h ↦ absurd (both_ways (survivors g (take i p) (get_or p i 0)) (ap (survivors g (take i p)) e ∙ gone_after g p j i h (omega arith)) (t i l))
      ]
    ]

-- a vertex was left, or stands somewhere in the list
pub left_or_taken : (g : Graph) (p : List ℕ) (c : ℕ) → held g c ≡ true → (survivors g p c ≡ true) ⊎ ((i : ℕ) × (i < length p) × (get_or p i 0 ≡ c))
left_or_taken g p c y =
    elim (cases_Bool (has p c)) [ inl h ↦ inr (has_true p c h) | inr h ↦ inl (survivors_from g p c y h) ]
