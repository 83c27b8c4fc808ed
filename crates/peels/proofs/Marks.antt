-- Colours are taken from the vertices of a list, or laid on them.
use Rattle.std.proofs.Common.{◌≡◌, ℕ, ◌+◌, ◌<◌, false, List, length, get_or, set, sym, refl, ap, ◌∙◌, inl, inr, arith, get_or-set_other, get_or-set_same}
use Rattle.std.proofs.lemmas.Bool.{cases_eq, both_ways}
use Rattle.finite.specs.Finite.{has}
use Rattle.finite.proofs.Counts.{has_at}

-- the first i of the list have no colour, and those not in it keep theirs
pub record Cleared (p : List ℕ) (i : ℕ) (old paint : List ℕ) : Type 0 where
  pub done : (j : ℕ) → j < i → get_or paint (get_or p j 0) 0 ≡ 0
  pub keeps : (c : ℕ) → has p c ≡ false → get_or paint c 0 ≡ get_or old c 0

pub cleared_none : (p old : List ℕ) → Cleared p 0 old old
cleared_none p old = record { done = λ j l. absurd (omega arith); keeps = λ c n. refl }

pub cleared_more : (p : List ℕ) (i : ℕ) (old paint : List ℕ) → i < length p → get_or p i 0 < length paint → Cleared p i old paint → Cleared p (i + 1) old (set paint (get_or p i 0) 0)
cleared_more p i old paint l fits s =
    let x = get_or p i 0 in
    record {
      done = λ j m. elim (cases_eq (get_or p j 0) x) [
        | inl e ↦ ap (λ v. get_or (set paint x 0) v 0) e ∙ get_or-set_same paint x 0 0 fits
        | inr ne ↦ get_or-set_other paint x (get_or p j 0) 0 0 ne ∙ s.done j (elim (cases_eq j i) [ inl q ↦ absurd (ne (ap (λ v. get_or p v 0) q)) | inr q ↦ omega arith ])
      ];
      keeps = λ c n. get_or-set_other paint x c 0 0 (λ q. both_ways (has p c) n (ap (has p) q ∙ has_at p i l)) ∙ s.keeps c n;
    }

-- the first i of the list have the colours of their places, and those not in it keep theirs
pub record Spread (xs drives : List ℕ) (i : ℕ) (old paint : List ℕ) : Type 0 where
  pub laid : ((a b : ℕ) → a < length xs → b < length xs → get_or xs a 0 ≡ get_or xs b 0 → a ≡ b) → (j : ℕ) → j < i → get_or paint (get_or xs j 0) 0 ≡ get_or drives j 0
  pub keeps : (c : ℕ) → has xs c ≡ false → get_or paint c 0 ≡ get_or old c 0

pub spread_none : (xs drives old : List ℕ) → Spread xs drives 0 old old
spread_none xs drives old = record { laid = λ once j l. absurd (omega arith); keeps = λ c n. refl }

pub spread_more : (xs drives : List ℕ) (i : ℕ) (old paint : List ℕ) → i < length xs → get_or xs i 0 < length paint → Spread xs drives i old paint → Spread xs drives (i + 1) old (set paint (get_or xs i 0) (get_or drives i 0))
spread_more xs drives i old paint l fits s =
    let x = get_or xs i 0 in
    let d = get_or drives i 0 in
    record {
      laid = λ once j m. elim (cases_eq j i) [
        | inl e ↦ ap (λ v. get_or (set paint x d) (get_or xs v 0) 0) e ∙ get_or-set_same paint x d 0 fits ∙ ap (λ v. get_or drives v 0) (sym e)
        | inr ne ↦ get_or-set_other paint x (get_or xs j 0) d 0 (λ q. ne (once j i (omega arith) l q)) ∙ s.laid once j (omega arith)
      ];
      keeps = λ c n. get_or-set_other paint x c d 0 (λ q. both_ways (has xs c) n (ap (has xs) q ∙ has_at xs i l)) ∙ s.keeps c n;
    }
