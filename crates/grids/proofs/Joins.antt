-- Rows after one more join.
use Rattle.std.proofs.Common.{◌≡◌, ℕ, ◌<◌, Bool, false, ◌&&◌, ◌||◌, eqb, List, length, get_or, set, sym, refl, ◌∙◌, ⊎_elim, arith}
use Rattle.std.proofs.lemmas.List.{length-set, get_or-set_same, get_or-set_other}
use Rattle.std.proofs.lemmas.Bool.{cases_Bool, cases_eq, eq-eqb, ne_eqb}
use Rattle.std.proofs.lemmas.Bool.Decides.{nat_tests}
use Rattle.finite.specs.Masks.{bit}
use Rattle.grids.specs.Grid.{linked, Even, Loopless, Held}

-- the two ends, in either order
abbrev pub ends : ℕ → ℕ → ℕ → ℕ → Bool
ends a b i j = (eqb i a && eqb j b) || (eqb i b && eqb j a)

module _ (rows : List ℕ) (a b x y : ℕ) (al : a < length rows) (bl : b < length rows) (ne : a ≡ b → ⊥) (isx : (j : ℕ) → bit x j ≡ (bit (get_or rows a 0) j || eqb j b)) (isy : (j : ℕ) → bit y j ≡ (bit (get_or (set rows a x) b 0) j || eqb j a)) where
  pub linked_after : (i j : ℕ) → linked (set (set rows a x) b y) i j ≡ (linked rows i j || ends a b i j)
  linked_after i j = ⊎_elim at_b off_b (cases_eq i b)
    where
      at_b : i ≡ b → linked (set (set rows a x) b y) i j ≡ (linked rows i j || ends a b i j)
      at_b e =
          let g : get_or (set (set rows a x) b y) b 0 ≡ y = get_or-set_same (set rows a x) b y 0 (rw length-set bl) in
          let h : get_or (set rows a x) b 0 ≡ get_or rows b 0 = get_or-set_other rows a b x 0 (λ d. ne (sym d)) in
          rw (e, g, isy j, h, ne_eqb b a (λ d. ne (sym d)), eq-eqb b b refl)

      off_b : (i ≡ b → ⊥) → linked (set (set rows a x) b y) i j ≡ (linked rows i j || ends a b i j)
      off_b nb = rw (get_or-set_other (set rows a x) b i y 0 nb, ne_eqb i b nb) (⊎_elim at_a off_a (cases_eq i a))
        where
          at_a : i ≡ a → linked (set rows a x) i j ≡ (linked rows i j || ((eqb i a && eqb j b) || false))
          at_a e = rw (e, get_or-set_same rows a x 0 al, isx j, eq-eqb a a refl) (grind (arith, cases_Bool (eqb j b)))

          off_a : (i ≡ a → ⊥) → linked (set rows a x) i j ≡ (linked rows i j || ((eqb i a && eqb j b) || false))
          off_a na = rw (get_or-set_other rows a i x 0 na, ne_eqb i a na) (grind (arith, cases_Bool (linked rows i j)))

-- what the rows keep
module _ (rows rows' : List ℕ) (n a b : ℕ) (al : a < n) (bl : b < n) (ne : a ≡ b → ⊥) (after : (i j : ℕ) → linked rows' i j ≡ (linked rows i j || ends a b i j)) where
  pub even_after : Even rows → Even rows'
  even_after h i j = after i j ∙ (let e = h i j in grind (arith, nat_tests)) ∙ sym (after j i)

  pub loopless_after : Loopless rows → Loopless rows'
  loopless_after h i = after i i ∙ (let e = h i in grind (arith, nat_tests))

  pub held_after : Held rows n → Held rows' n
  held_after h i j t = let e = sym (after i j) ∙ t in let d = h i j in grind (arith, nat_tests, cases_Bool (linked rows i j))
