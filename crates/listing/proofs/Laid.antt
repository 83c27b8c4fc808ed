-- Rows laid edge by edge.
use Rattle.std.proofs.Common.{◌≡◌, ℕ, ◌+◌, ◌<◌, ◌≤◌, ◌⊎◌, List, [], ◌∷◌, ◌++◌, length, get_or, set, None, sym, ap, ◌∙◌, inl, inr, arith, get_or-set_other, get_or-set_same}
use Rattle.std.proofs.lemmas.List.{length-set}
use Rattle.std.proofs.lemmas.Bool.{cases_lt, cases_eq}
use Rattle.std.proofs.lemmas.Bool.Decides.{nat_tests}
use Rattle.graph.specs.declared.edge.Edge.{Edge}
use Rattle.graph.specs.Edges.{edge, Rising}
use Rattle.listing.specs.Listing.{row_length, row_of, start, LaidRows}
use Rattle.listing.proofs.Starts.{row_push, place_before, place_one}
use Rattle.listing.proofs.Rows.{length_row, row_of_kept, row_of_new_first, row_of_new_second}

pub laid_none : (n : ℕ) (es : List Edge) (ns : List ℕ) → start es n ≤ length ns → LaidRows n es [] ns
laid_none n es ns l =
    record { room = l; fits = λ c h. omega arith; filled = λ c i h x. absurd (omega arith) }

-- the next place of a row is there
pub place_fits : (n : ℕ) (es done : List Edge) (ns : List ℕ) (c : ℕ) → LaidRows n es done ns → c < n → row_length done c < row_length es c → start es c + row_length done c < length ns
place_fits n es done ns c s l h = omega (arith, place_before es c n (row_length done c) l h, s.room)

-- an edge is written: the place of each end gets the other
written : List Edge → List Edge → List ℕ → ℕ → ℕ → List ℕ
written es done ns a b = set (set ns (start es a + row_length done a) b) (start es b + row_length done b) a

module _ (n : ℕ) (es done : List Edge) (ns : List ℕ) (a b : ℕ) (s : LaidRows n es done ns) (up : a < b) (below : b < n) (free_a : row_length done a < row_length es a) (free_b : row_length done b < row_length es b) where
  -- what is laid stays
  written_kept : (c i : ℕ) → c < n → i < row_length done c → get_or (written es done ns a b) (start es c + i) 0 ≡ get_or ns (start es c + i) 0
  unfolding written
  written_kept c i l x =
      let f = s.fits c l in
      get_or-set_other (set ns (start es a + row_length done a) b) (start es b + row_length done b) (start es c + i) a 0 (λ q. let r = place_one es c b i (row_length done b) (omega arith) free_b q in let z = ap (row_length done) r.0 in omega (arith, r.1))
      ∙ get_or-set_other ns (start es a + row_length done a) (start es c + i) b 0 (λ q. let r = place_one es c a i (row_length done a) (omega arith) free_a q in let z = ap (row_length done) r.0 in omega (arith, r.1))

  written_first : get_or (written es done ns a b) (start es a + row_length done a) 0 ≡ b
  unfolding written
  written_first =
      get_or-set_other (set ns (start es a + row_length done a) b) (start es b + row_length done b) (start es a + row_length done a) a 0 (λ q. let r = place_one es a b (row_length done a) (row_length done b) free_a free_b q in omega (arith, r.0))
      ∙ get_or-set_same ns (start es a + row_length done a) b 0 (place_fits n es done ns a s (omega arith) free_a)

  written_second : get_or (written es done ns a b) (start es b + row_length done b) 0 ≡ a
  unfolding written
  written_second =
      get_or-set_same (set ns (start es a + row_length done a) b) (start es b + row_length done b) a 0 (omega (arith, length-set ns (start es a + row_length done a) b, place_fits n es done ns b s below free_b))

  written_length : length (written es done ns a b) ≡ length ns
  unfolding written
  written_length = length-set (set ns (start es a + row_length done a) b) (start es b + row_length done b) a ∙ length-set ns (start es a + row_length done a) b

  more_fits : (c : ℕ) → c < n → row_length (done ++ edge a b ∷ []) c ≤ row_length es c
  more_fits c l =
      let p = row_push done (edge a b) c in
      let f = s.fits c l in
      elim (cases_eq c a) [
        | inl e ↦ let y = ap (row_length done) e in let z = ap (row_length es) e in grind (arith, nat_tests)
        | inr e ↦ elim (cases_eq c b) [ inl h ↦ let y = ap (row_length done) h in let z = ap (row_length es) h in grind (arith, nat_tests) | inr h ↦ grind (arith, nat_tests) ]
      ]

  -- a place that is new is the next of row a or of row b
  new_place : (c i : ℕ) → i < row_length (done ++ edge a b ∷ []) c → row_length done c ≤ i → (i ≡ row_length done c) × ((c ≡ a) ⊎ (c ≡ b))
  new_place c i x y =
      let p = row_push done (edge a b) c in
      (grind (arith, nat_tests), elim (cases_eq c a) [ inl e ↦ inl e | inr e ↦ elim (cases_eq c b) [ inl h ↦ inr h | inr h ↦ absurd (grind (arith, nat_tests)) ] ])

  module _ (told : (c : ℕ) → length (row_of done c) ≡ row_length done c) where
    more_filled : (c i : ℕ) → c < n → i < row_length (done ++ edge a b ∷ []) c → get_or (written es done ns a b) (start es c + i) 0 ≡ get_or (row_of (done ++ edge a b ∷ []) c) i 0
    more_filled c i l x =
        let t = told c in
        elim (cases_lt i (row_length done c)) [
          | inl h ↦ written_kept c i l h ∙ s.filled c i l h ∙ sym (row_of_kept done (edge a b) c i (omega arith))
          | inr h ↦ let w = new_place c i x h in
              elim w.1 [
                | inl e ↦ let q : start es c + i ≡ start es a + row_length done a = omega (arith, w.0, ap (start es) e, ap (row_length done) e) in
                    ap (λ (v : ℕ). get_or (written es done ns a b) v 0) q ∙ written_first ∙ sym (row_of_new_first done (edge a b) c i e (t ∙ sym w.0))
                | inr e ↦ let q : start es c + i ≡ start es b + row_length done b = omega (arith, w.0, ap (start es) e, ap (row_length done) e) in
                    ap (λ (v : ℕ). get_or (written es done ns a b) v 0) q ∙ written_second ∙ sym (row_of_new_second done (edge a b) c i up e (t ∙ sym w.0))
              ]
        ]

-- one more edge laid, with each row of those done as long as it is counted
pub laid_more_told : (n : ℕ) (es done : List Edge) (ns : List ℕ) (a b : ℕ) → LaidRows n es done ns → ((c : ℕ) → length (row_of done c) ≡ row_length done c) → a < b → b < n → row_length done a < row_length es a → row_length done b < row_length es b → LaidRows n es (done ++ edge a b ∷ []) (set (set ns (start es a + row_length done a) b) (start es b + row_length done b) a)
unfolding written
laid_more_told n es done ns a b s told up below x y =
    record {
      room = omega (arith, s.room, written_length n es done ns a b s up below x y);
      fits = more_fits n es done ns a b s up below x y;
      filled = more_filled n es done ns a b s up below x y told;
    }

-- which holds of edges that rise
pub laid_more : (n : ℕ) (es done : List Edge) (ns : List ℕ) (a b : ℕ) → LaidRows n es done ns → Rising n None done → a < b → b < n → row_length done a < row_length es a → row_length done b < row_length es b → LaidRows n es (done ++ edge a b ∷ []) (set (set ns (start es a + row_length done a) b) (start es b + row_length done b) a)
laid_more n es done ns a b s r up below x y =
    laid_more_told n es done ns a b s (λ c. length_row n done c r) up below x y
