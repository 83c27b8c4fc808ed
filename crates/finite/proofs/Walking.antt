-- Walks through a list, and what is left of it.
use Rattle.std.proofs.Common.{◌≡◌, ℕ, ◌+◌, ◌<◌, ◌≤◌, List, [], ◌∷◌, ◌++◌, length, get_or, take, refl, sym, ap, ◌∙◌, drop, arith, length-take, length-drop, drop-cons, add-one}
use Rattle.std.proofs.lemmas.List.{length_push, length-take-le, get_or_at, take_at, take_more}

-- one step: the last of what is left
pub record Back (xs rest : List ℕ) (n x : ℕ) : Type 0 where
  pub left : rest ≡ take (length rest) xs
  pub up : n ≡ length rest + 1
  pub within : length rest < length xs
  pub is : x ≡ get_or xs (length rest) 0

pub back_of : (xs rest left : List ℕ) (x : ℕ) → rest ≡ take (length rest) xs → rest ≡ left ++ x ∷ [] → Back xs left (length rest) x
back_of xs rest left x f e =
    let m = length left in
    let up : length rest ≡ m + 1 = ap length e ∙ length_push left x in
    let room : length rest ≤ length xs = omega (arith, ap length f, length-take (length rest) xs) in
    let low : m < length xs = omega arith in
    let g = get_or xs m 0 in
    let l : length (take m xs) ≡ m = length-take-le m xs (omega arith) in
    let h : left ++ x ∷ [] ≡ take m xs ++ g ∷ [] = sym e ∙ f ∙ ap (λ n. take n xs) up ∙ take_more xs m 0 low in
    record {
      left = sym (take_at left (x ∷ []) m refl) ∙ ap (take m) h ∙ take_at (take m xs) (g ∷ []) m l;
      up = up;
      within = low;
      is = sym (get_or_at left x [] 0 m refl) ∙ ap (λ v. get_or v m 0) h ∙ get_or_at (take m xs) g [] 0 m l;
    }

-- a walk on through a list: the first of what is left
pub record Ahead (xs rest : List ℕ) (i x : ℕ) : Type 0 where
  pub left : rest ≡ drop (i + 1) xs
  pub within : i < length xs
  pub is : x ≡ get_or xs i 0

pub ahead_of : (xs rest left : List ℕ) (i x : ℕ) → rest ≡ drop i xs → rest ≡ x ∷ left → Ahead xs left i x
ahead_of xs rest left i x f e =
    let w : i < length xs = omega (arith, ap length f, ap length e, length-drop i xs) in
    let d = drop-cons xs i 0 w in
    record { left = rw add-one (tails (sym e ∙ f ∙ d)); within = w; is = heads (sym e ∙ f ∙ d) }
  where
    heads : {a b : ℕ} {ts us : List ℕ} → a ∷ ts ≡ b ∷ us → a ≡ b
    heads h = cc

    tails : {a b : ℕ} {ts us : List ℕ} → a ∷ ts ≡ b ∷ us → ts ≡ us
    tails h = cc
