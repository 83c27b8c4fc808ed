-- What is written into lent buffers.
use Rattle.std.proofs.Common.{◌≡◌, ℕ, ◌+◌, ◌-◌, ◌<◌, ◌≤◌, List, [], ◌∷◌, ◌++◌, length, take, drop, set, sym, refl, ap, ◌∙◌, add-one, arith, length-append}
use Rattle.std.proofs.lemmas.List.{length-take-le, take_at, drop_at, take_more_set, drop-set-lt, drop-drop}
use Rattle.calls.specs.declared.row.Row.{Row}
use Rattle.calls.specs.Buffers.{row, rows}

-- the first n places of a list, copied to the front of a buffer
pub record Fronted (n : ℕ) (list before after : List ℕ) : Type 0 where
  pub long : n ≤ length after
  pub front : take n after ≡ take n list
  pub rest : drop n after ≡ drop n before

pub fronted : (n : ℕ) (list part before after : List ℕ) → n ≤ length list → part ≡ take (n - 0) list → after ≡ part ++ drop (n - 0) before → Fronted n list before after
fronted n list part before after l e d =
    let z : n - 0 ≡ n = omega arith in
    let p : part ≡ take n list = e ∙ ap (λ (k : ℕ). take k list) z in
    let m : length part ≡ n = ap length p ∙ length-take-le n list l in
    let q : after ≡ part ++ drop n before = d ∙ ap (λ (k : ℕ). part ++ drop k before) z in
    record {
      long = omega (arith, ap length q, length-append part (drop n before), m);
      front = ap (take n) q ∙ take_at part (drop n before) n m ∙ p;
      rest = ap (drop n) q ∙ drop_at part (drop n before) n m;
    }

-- the rows of the numbers below n are written
pub record Rowed (col : ℕ → ℕ) (n : ℕ) (before after : List Row) : Type 0 where
  pub front : take n after ≡ rows col n
  pub rest : drop n after ≡ drop n before

rows_more : (col : ℕ → ℕ) (n : ℕ) → rows col (n + 1) ≡ rows col n ++ (row n (col n) ∷ [])
unfolding rows
rows_more col n = rw (add-one n)

pub rowed_none : (col : ℕ → ℕ) (before : List Row) → Rowed col 0 before before
unfolding rows
rowed_none col before = record { front = refl; rest = refl }

pub rowed_more : (col : ℕ → ℕ) (n k : ℕ) (before after : List Row) → k ≡ n → n < length after → Rowed col n before after → Rowed col (n + 1) before (set after n (row n (col k)))
rowed_more col n k before after e l x = rw e (record {
  front = take_more_set after n (row n (col n)) l ∙ ap (λ xs. xs ++ (row n (col n) ∷ [])) x.front ∙ sym (rows_more col n);
  rest = drop-set-lt (n + 1) after n (row n (col n)) (omega arith) ∙ sym (drop-drop 1 n after) ∙ ap (drop 1) x.rest ∙ drop-drop 1 n before;
})
