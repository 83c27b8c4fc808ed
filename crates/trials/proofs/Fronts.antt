-- The front of a table replaced by that of another.
use Rattle.std.proofs.Common.{◌≡◌, ℕ, ◌+◌, ◌-◌, ◌<◌, ◌≤◌, List, ◌++◌, length, take, drop, get_or, ap, ◌∙◌, arith}
use Rattle.std.proofs.lemmas.List.{get_or-take, get_or-drop, get_or_append_left, get_or-append_right, length-take-le}

pub at_front : (xs found table : List ℕ) (n i : ℕ) → xs ≡ take n found → n ≤ length found → i < n → get_or (xs ++ drop n table) i 0 ≡ get_or found i 0
at_front xs found table n i e l m =
    let h : length xs ≡ n = ap (λ (v : List ℕ). length v) e ∙ length-take-le n found l in
    get_or_append_left xs (drop n table) 0 i (omega arith) ∙ ap (λ (v : List ℕ). get_or v i 0) e ∙ get_or-take n found i 0 m

pub past_front : (xs found table : List ℕ) (n i : ℕ) → xs ≡ take n found → n ≤ length found → n ≤ i → get_or (xs ++ drop n table) i 0 ≡ get_or table i 0
past_front xs found table n i e l m =
    let h : length xs ≡ n = ap (λ (v : List ℕ). length v) e ∙ length-take-le n found l in
    let k : n + (i - n) ≡ i = omega arith in
    get_or-append_right xs (drop n table) n i 0 h m ∙ get_or-drop n table (i - n) 0 ∙ ap (λ (j : ℕ). get_or table j 0) k
