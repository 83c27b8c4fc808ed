-- The rising list of the members of a set, one number after another.
use Rattle.std.proofs.Common.{◌≡◌, ℕ, ◌+◌, Bool, true, false, cond, [], ◌∷◌, ◌++◌, refl, ap, ◌∙◌, add-one}
use Rattle.std.proofs.lemmas.List.{append-nil}
use Rattle.finite.specs.Finite.{members}

pub members_none : (t : ℕ → Bool) → [] ≡ members t 0
unfolding members
members_none t = refl

pub members_yes : (t : ℕ → Bool) (c : ℕ) → t c ≡ true → members t (c + 1) ≡ members t c ++ c ∷ []
unfolding members
members_yes t c y = ap (members t) (add-one c) ∙ ap (λ (b : Bool). members t c ++ cond b (c ∷ []) []) y

pub members_no : (t : ℕ → Bool) (c : ℕ) → t c ≡ false → members t (c + 1) ≡ members t c
unfolding members
members_no t c z =
    ap (members t) (add-one c) ∙ ap (λ (b : Bool). members t c ++ cond b (c ∷ []) []) z ∙ append-nil (members t c)
