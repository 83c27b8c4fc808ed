use Rattle.std.specs.Prelude.{◌≡◌, ℕ, Bool, true, false, ◌&&◌, ◌==◌}
use Rattle.std.proofs.Common.{sym, ◌∙◌, inl, inr, arith}
use Rattle.std.proofs.lemmas.Bool.{cases_Bool, cases_eq, ne_eqb, eq-eqb}

pub eqb_both : (a b : ℕ) → (a == b) ≡ (b == a)
eqb_both a b =
    elim (cases_eq a b) [
      | inl e ↦ eq-eqb a b e ∙ sym (eq-eqb b a (sym e))
      | inr e ↦ ne_eqb a b e ∙ sym (ne_eqb b a (λ d. e (sym d)))
    ]

pub turn : (l m e : Bool) → ((l && true) && ((m && true) && e)) ≡ ((m && true) && ((l && true) && e))
turn l m e = grind (arith, cases_Bool l, cases_Bool m, cases_Bool e)

pub none : (x : Bool) → ((x && true) && ((x && true) && false)) ≡ false
none x = grind (arith, cases_Bool x)
