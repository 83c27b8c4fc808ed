-- The stack of the search as functions of the level, when the level at the top is written anew and another put on it.
use Rattle.std.proofs.Common.{◌≡◌, ℕ, ◌+◌, ◌<◌, List, length, get_or, set, sym, ap, ◌∙◌, arith}
use Rattle.std.proofs.lemmas.List.{length-set, get_or-set_same, get_or-set_other}
use Rattle.cliques.specs.declared.levels.Level.{Level}
use Rattle.searching.proofs.Stack.{Pushed}

abbrev pub blank : Level
blank = record { picked = 0; spare = 0; branch = 0 }

abbrev pub spare_of : List Level → ℕ → ℕ
spare_of xs k = (get_or xs k blank).spare

abbrev pub branch_of : List Level → ℕ → ℕ
branch_of xs k = (get_or xs k blank).branch

abbrev pub picked_of : List Level → ℕ → ℕ
picked_of xs k = (get_or xs k blank).picked

module _ (xs : List Level) (top height : ℕ) (a b : Level) (is : height ≡ top + 1) (room : height < length xs) where
  low : (k : ℕ) → k < top → get_or (set (set xs top a) height b) k blank ≡ get_or xs k blank
  low k h = get_or-set_other (set xs top a) height k b blank (λ e. omega arith) ∙ get_or-set_other xs top k a blank (λ e. omega arith)

  here : get_or (set (set xs top a) height b) top blank ≡ a
  here = get_or-set_other (set xs top a) height top b blank (λ e. omega arith) ∙ get_or-set_same xs top a blank (omega arith)

  next : get_or (set (set xs top a) height b) (top + 1) blank ≡ b
  next =
      ap (λ (k : ℕ). get_or (set (set xs top a) height b) k blank) (sym is) ∙ get_or-set_same (set xs top a) height b blank (omega (arith, length-set xs top a))

  pub two : (f : Level → ℕ) → Pushed (λ k. f (get_or xs k blank)) (λ k. f (get_or (set (set xs top a) height b) k blank)) top (f a) (f b)
  two f = record { low = λ k h. ap f (low k h); here = ap f here; next = ap f next }
