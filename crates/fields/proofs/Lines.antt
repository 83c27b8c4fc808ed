-- A line of numbers, piece by piece.
use Rattle.std.proofs.Common.{◌≡◌, ℕ, ◌+◌, ◌<◌, ◌≤◌, List, [], ◌∷◌, ◌++◌, length, get_or, take, decimal, sym, ap, ◌∙◌}
use Rattle.std.specs.List.{flat_map}
use Rattle.std.proofs.lemmas.List.{append_assoc, append-nil, flat_map_more, take_more, take_all}
use Rattle.fields.specs.Rows.{tabbed, line_of}

-- a tab and a number, for each of them
abbrev pub tabs : {A : Type 0} → (A → ℕ) → List A → List ℕ
tabs value xs = flat_map (λ x. tabbed (value x)) xs

pub line_none : {A : Type 0} (value : A → ℕ) (out : List ℕ) → out ≡ out ++ tabs value []
line_none value out = sym (append-nil out)

pub line_more : {A : Type 0} (value : A → ℕ) (front out x1 x2 : List ℕ) (xs : List A) (i : ℕ) (x : A) → i < length xs → x ≡ get_or xs i x → out ≡ front ++ tabs value (take i xs) → x1 ≡ out ++ 9 ∷ [] → x2 ≡ x1 ++ decimal (value x) → x2 ≡ front ++ tabs value (take (i + 1) xs)
line_more value front out x1 x2 xs i x l g e a b =
    b ∙ ap (λ y. y ++ decimal (value x)) a ∙ append_assoc out (9 ∷ []) (decimal (value x)) ∙ ap (λ y. y ++ tabbed (value x)) e
    ∙ flat_map_more (λ x. tabbed (value x)) front (take i xs) x ∙ ap (λ y. front ++ tabs value (take i xs ++ y ∷ [])) g ∙ ap (λ ys. front ++ tabs value ys) (sym (take_more xs i x l))

pub line_all : {A : Type 0} (value : A → ℕ) (out x1 x2 x3 : List ℕ) (c : ℕ) (xs : List A) (i : ℕ) → length xs ≤ i → x1 ≡ out ++ c ∷ [] → x2 ≡ x1 ++ tabs value (take i xs) → x3 ≡ x2 ++ 10 ∷ [] → x3 ≡ out ++ line_of value c xs
line_all value out x1 x2 x3 c xs i l a b d =
    d ∙ ap (λ y. y ++ 10 ∷ []) (b ∙ ap (λ y. y ++ tabs value (take i xs)) a ∙ ap (λ ys. (out ++ c ∷ []) ++ tabs value ys) (take_all i xs l)) ∙ simp append_assoc
