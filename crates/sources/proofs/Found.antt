-- What is found in a row.
use Rattle.std.proofs.Common.{◌≡◌, ℕ, ◌+◌, ◌-◌, ◌<◌, ◌≤◌, List, length, get_or, drop, Ok, Err, Result, MatchResult, is_ok, sym, ap, ◌∙◌, inl, inr, refl, arith, length-take, length-drop}
use Rattle.std.proofs.lemmas.Bool.{cases_lt}
use Rattle.std.proofs.lemmas.List.{get_or-take, get_or-drop, get_or_read_under}
use Rattle.rows.specs.Rows.{Sound, rows, in_row}
use Rattle.rows.proofs.Among.{among_found, among_false}
use Rattle.rows.proofs.Lawful.{row_stands, row_rises}
use Rattle.sources.specs.Row.{row_of}

-- what is read at k, where k is i
pub row_read : (xs : List ℕ) (k i v : ℕ) → v ≡ get_or xs k v → k < length xs → k ≡ i → v ≡ get_or xs i 0
row_read xs k i v e l h = get_or_read_under xs k (length xs) v 0 e l refl ∙ ap (λ j. get_or xs j 0) h

module _ (os ns : List ℕ) (s : Sound os ns) (c : ℕ) (l : c < rows os) where
  pub row_length : length (row_of os ns c) ≡ get_or os (c + 1) 0 - get_or os c 0
  row_length =
      let h = row_stands os (length ns) s.offsets c l in
      omega (arith, h.up, h.fits, length-take (get_or os (c + 1) 0 - get_or os c 0) (drop (get_or os c 0) ns), length-drop (get_or os c 0) ns)

  pub row_place : (i : ℕ) → i < length (row_of os ns c) → get_or (row_of os ns c) i 0 ≡ get_or ns (get_or os c 0 + i) 0
  row_place i m =
      get_or-take (get_or os (c + 1) 0 - get_or os c 0) (drop (get_or os c 0) ns) i 0 (omega (arith, row_length)) ∙ get_or-drop (get_or os c 0) ns i 0

  pub row_rising : (i j : ℕ) → i ≤ j → j < length (row_of os ns c) → get_or (row_of os ns c) i 0 ≤ get_or (row_of os ns c) j 0
  row_rising i j h m =
      elim (cases_lt i j) [
        | inl a ↦ omega (arith, row_place i (omega arith), row_place j m, row_rises os ns s c (get_or os c 0 + i) (get_or os c 0 + j) l (omega arith) (omega arith) (omega (arith, row_length)))
        | inr a ↦ let e : i ≡ j = omega arith in omega (arith, ap (λ v. get_or (row_of os ns c) v 0) e)
      ]

  pub row_found : (b : ℕ) (r : Result ℕ ℕ) → MatchResult r (λ i. (i < length (row_of os ns c)) × (get_or (row_of os ns c) i 0 ≡ b)) (λ i. (i ≤ length (row_of os ns c)) × ((k : ℕ) → k < i → get_or (row_of os ns c) k 0 < b) × ((k : ℕ) → i ≤ k → k < length (row_of os ns c) → b < get_or (row_of os ns c) k 0)) → is_ok r ≡ in_row os ns c b
  row_found b (Ok i) h =
      sym (among_found ns (get_or os c 0) (get_or os (c + 1) 0) b (get_or os c 0 + i) (omega arith) (omega (arith, h.0, row_length)) (sym (row_place i h.0) ∙ h.1))
  row_found b (Err i) h =
      sym (among_false ns (get_or os c 0) (get_or os (c + 1) 0) b (λ k x y e.
      let f = get_or os c 0 in
      let m : k - f < length (row_of os ns c) = omega (arith, row_length) in
      let p = row_place (k - f) m in
      let q : f + (k - f) ≡ k = omega arith in
      let n = ap (λ v. get_or ns v 0) q in
      elim (cases_lt (k - f) i) [
        | inl a ↦ omega (arith, h.1 (k - f) a, p, n, e)
        | inr a ↦ omega (arith, h.2 (k - f) a m, p, n, e)
      ]))
