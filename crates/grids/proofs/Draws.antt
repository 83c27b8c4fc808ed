-- Rows that are drawn pair by pair: place i with each place below it, for each i in turn.
use Rattle.std.proofs.Common.{◌≡◌, ℕ, ◌+◌, Bool, true, false, ◌&&◌, ◌||◌, eqb, ltb, sym, refl, ap, ◌∙◌, inl, inr, arith}
use Rattle.std.proofs.lemmas.Bool.{cases_Bool, cases_eq, eqb-true, or_cases, and_parts, and_right}
use Rattle.std.proofs.lemmas.Bool.Decides.{nat_tests}
use Rattle.grids.specs.Draws.{covered, Drawn}
use Rattle.grids.proofs.Joins.{ends}

covered_more : (i j a b : ℕ) → covered i (j + 1) a b ≡ (covered i j a b || ends i j a b)
covered_more i j a b =
    more (ltb a i && ltb b i) (eqb a i) (eqb b i) (ltb b (j + 1)) (ltb b j) (eqb b j) (ltb a (j + 1)) (ltb a j) (eqb a j) (step b) (step a)
  where
    step : (x : ℕ) → ltb x (j + 1) ≡ (ltb x j || eqb x j)
    step x = grind (arith, nat_tests)

    more : (w ai bi b1 bj be a1 aj ae : Bool) → b1 ≡ (bj || be) → a1 ≡ (aj || ae) → (w || ((ai && b1) || (bi && a1))) ≡ ((w || ((ai && bj) || (bi && aj))) || ((ai && be) || (ae && bi)))
    more w ai bi b1 bj be a1 aj ae p q =
        rw (p, q) (grind (arith, cases_Bool w, cases_Bool ai, cases_Bool bi, cases_Bool bj, cases_Bool be, cases_Bool aj, cases_Bool ae))

pub drawn_none : (e joined : ℕ → ℕ → Bool) → ((a b : ℕ) → joined a b ≡ false) → Drawn e joined 0 0
drawn_none e joined h a b = h a b ∙ grind (arith, nat_tests)

module _ (e : ℕ → ℕ → Bool) (both : (a b : ℕ) → e a b ≡ e b a) (never : (a : ℕ) → e a a ≡ false) where
  at_ends : (i j a b : ℕ) → ends i j a b ≡ true → e a b ≡ e i j
  at_ends i j a b t =
      elim (or_cases (eqb a i && eqb b j) (eqb a j && eqb b i) t) [
        | inl h ↦ let p = and_parts (eqb a i) (eqb b j) h in rw (eqb-true a i p.0, eqb-true b j p.1) refl
        | inr h ↦ let p = and_parts (eqb a j) (eqb b i) h in rw (eqb-true a j p.0, eqb-true b i p.1) (both j i)
      ]

  pub drawn_yes : (joined joined' : ℕ → ℕ → Bool) (i j : ℕ) → e i j ≡ true → ((a b : ℕ) → joined' a b ≡ (joined a b || ends i j a b)) → Drawn e joined i j → Drawn e joined' i (j + 1)
  drawn_yes joined joined' i j y after h a b =
      after a b ∙ rw (h a b, covered_more i j a b) (split (covered i j a b) (ends i j a b) (e a b) (λ t. at_ends i j a b t ∙ y))
    where
      split : (w x v : Bool) → (x ≡ true → v ≡ true) → ((w && v) || x) ≡ ((w || x) && v)
      split w x v f = elim (cases_Bool x) [ inl t ↦ rw (t, f t) (grind (arith, cases_Bool w)) | inr t ↦ rw t (grind (arith, cases_Bool w, cases_Bool v)) ]

  pub drawn_no : (joined : ℕ → ℕ → Bool) (i j : ℕ) → e i j ≡ false → Drawn e joined i j → Drawn e joined i (j + 1)
  drawn_no joined i j y h a b =
      h a b ∙ rw (covered_more i j a b) (split (covered i j a b) (ends i j a b) (e a b) (λ t. at_ends i j a b t ∙ y))
    where
      split : (w x v : Bool) → (x ≡ true → v ≡ false) → (w && v) ≡ ((w || x) && v)
      split w x v f = elim (cases_Bool x) [ inl t ↦ rw (t, f t) (grind (arith, cases_Bool w)) | inr t ↦ rw t (grind (arith, cases_Bool w, cases_Bool v)) ]

  pub drawn_row : (joined : ℕ → ℕ → Bool) (i : ℕ) → Drawn e joined i i → Drawn e joined (i + 1) 0
  drawn_row joined i h a b =
      h a b ∙ elim (cases_eq a b) [
        | inl d ↦ let z : e a b ≡ false = ap (λ (x : ℕ). e a x) (sym d) ∙ never a in
            and_right (covered i i a b) (e a b) z ∙ sym (and_right (covered (i + 1) 0 a b) (e a b) z)
        | inr d ↦ ap (λ (v : Bool). v && e a b) (apart a b d)
      ]
    where
      apart : (a b : ℕ) → (a ≡ b → ⊥) → covered i i a b ≡ covered (i + 1) 0 a b
      apart a b d = grind (arith, nat_tests)

pub drawn_all : (e joined : ℕ → ℕ → Bool) (n : ℕ) → Drawn e joined n 0 → (a b : ℕ) → joined a b ≡ (ltb a n && (ltb b n && e a b))
drawn_all e joined n h a b = h a b ∙ (let p = zero a in let q = zero b in rw (p, q) (split (ltb a n) (ltb b n) (eqb a n) (eqb b n) (e a b)))
  where
    zero : (x : ℕ) → ltb x 0 ≡ false
    zero x = grind (arith, nat_tests)

    split : (x y u w v : Bool) → (((x && y) || ((u && false) || (w && false))) && v) ≡ (x && (y && v))
    split x y u w v = grind (arith, cases_Bool x, cases_Bool y, cases_Bool u, cases_Bool w, cases_Bool v)
