-- The fields of a line, from what it says.
use Rattle.std.proofs.Common.{◌≡◌, ℕ, ◌<◌, ◌≤◌, Bool, true, false, eqb, ltb, ◌⊎◌, List, [], ◌∷◌, ◌++◌, Some, None, decimal, Option, sym, refl, ap, ◌∙◌, inl, inr, arith}
use Rattle.std.proofs.lemmas.Bool.{cases_Bool, eqb-true, ltb-false}
use Rattle.fields.specs.Numerals.{numeral}
use Rattle.fields.specs.Parts.{Parts, last, more, ahead, parts}
use Rattle.fields.proofs.Numbers.{numeral_of, numeral_some, numeral_unfair}
use Rattle.grammar.specs.declared.Kind.{Kind}
use Rattle.grammar.specs.declared.Kind.TheVariants.{Size, Clash, Remark, End, Other}
use Rattle.grammar.specs.Lines.{field, size_of, letter, kind_of, Said, size, clash, remark, ended, wrong, both, said, says}

-- the text again, from its parts
unfoldable pub join : ℕ → Parts → List ℕ
join at (last f) = f
join at (more f p) = f ++ at ∷ join at p

pub join_ahead : (at c : ℕ) (p : Parts) → join at (ahead c p) ≡ c ∷ join at p
unfolding join
join_ahead at c (last f) = refl
join_ahead at c (more f p) = refl

pub parts_join : (at : ℕ) (s : List ℕ) → s ≡ join at (parts at s)
unfolding parts join
parts_join at [] = refl
parts_join at (c ∷ s) =
    let h = parts_join at s in
    elim (cases_Bool (eqb c at)) [
      | inl e ↦ let q = eqb-true c at e in rw e (ap (λ (x : ℕ). x ∷ s) q ∙ ap (λ r. at ∷ r) h)
      | inr e ↦ rw (e, join_ahead at c (parts at s)) (ap (λ r. c ∷ r) h)
    ]

pub join_last : (at : ℕ) (s f : List ℕ) → parts at s ≡ last f → s ≡ f
unfolding join
join_last at s f e = parts_join at s ∙ ap (join at) e

pub join_more : (at : ℕ) (s f : List ℕ) (p : Parts) → parts at s ≡ more f p → s ≡ f ++ at ∷ join at p
unfolding join
join_more at s f p e = parts_join at s ∙ ap (join at) e

pub join_two : (at : ℕ) (f g : List ℕ) → join at (more f (last g)) ≡ f ++ at ∷ g
unfolding join
join_two at f g = refl

pub join_three : (at : ℕ) (f g h : List ℕ) → join at (more f (more g (last h))) ≡ f ++ at ∷ (g ++ at ∷ h)
unfolding join
join_three at f g h = refl

-- a letter stands alone
pub letter_alone : (f : List ℕ) (c : ℕ) → letter f ≡ c → 0 < c → f ≡ c ∷ []
letter_alone [] c e l = absurd (omega arith)
letter_alone (d ∷ []) c e l = ap (λ (x : ℕ). x ∷ []) e
letter_alone (d ∷ x ∷ f) c e l = absurd (omega arith)

abbrev pub code : Kind → ℕ
code Size = 115
code Clash = 112
code Remark = 114
code End = 101
code Other = 0

pub kind_letter : (f : List ℕ) → (kind_of f ≡ Other) ⊎ (letter f ≡ code (kind_of f))
kind_letter f =
    elim (cases_Bool (eqb (letter f) 115)) [
      | inl a ↦ rw a (inr (eqb-true (letter f) 115 a))
      | inr a ↦ elim (cases_Bool (eqb (letter f) 112)) [
        | inl b ↦ rw (a, b) (inr (eqb-true (letter f) 112 b))
        | inr b ↦ elim (cases_Bool (eqb (letter f) 114)) [
          | inl d ↦ rw (a, b, d) (inr (eqb-true (letter f) 114 d))
          | inr d ↦ elim (cases_Bool (eqb (letter f) 101)) [
            | inl g ↦ rw (a, b, d, g) (inr (eqb-true (letter f) 101 g))
            | inr g ↦ rw (a, b, d, g) (inl refl)
          ]
        ]
      ]
    ]

pub kind_alone : (f : List ℕ) (k : Kind) → kind_of f ≡ k → 0 < code k → f ≡ code k ∷ []
kind_alone f k e l =
    elim (kind_letter f) [
      | inl o ↦ absurd (let z = ap code (sym e ∙ o) in omega arith)
      | inr h ↦ letter_alone f (code k) (h ∙ ap code e) l
    ]

pub numeral_empty : (v : ℕ) → numeral [] ≡ Some v → ⊥
numeral_empty v e = let q = numeral_unfair [] refl in let z : ◌≡◌ {A = ℕ} 0 1 = cc in omega arith

-- two numbers behind the letter
pub both_say : (say : ℕ → ℕ → Said) (x y : Option ℕ) (o : Bool) (s : Said) → both say x y o ≡ s → ((j : ℕ) → wrong j ≡ s → ⊥) → (a : ℕ) × (b : ℕ) × (x ≡ Some a) × (y ≡ Some b) × (o ≡ false) × (say a b ≡ s)
both_say say None y o s e n = absurd (n 2 e)
both_say say (Some a) None o s e n = absurd (n 3 e)
both_say say (Some a) (Some b) true s e n = absurd (n 4 e)
both_say say (Some a) (Some b) false s e n = (a, b, refl, refl, refl, e)

pub three_fields : (p : Parts) (b : ℕ) → numeral (field p 2) ≡ Some b → size_of p ≤ 3 → p ≡ more (field p 0) (more (field p 1) (last (field p 2)))
three_fields (last f) b e l = absurd (numeral_empty b e)
three_fields (more f (last g)) b e l = absurd (numeral_empty b e)
three_fields (more f (more g (last h))) b e l = refl
three_fields (more f (more g (more h (last x)))) b e l = absurd (omega arith)
three_fields (more f (more g (more h (more x q)))) b e l = absurd (omega arith)

-- the fields of a line with two numbers
unfoldable pub Row : ℕ → ℕ → ℕ → Parts
Row c a b = more (c ∷ []) (more (decimal a) (last (decimal b)))

pub row_fields : (p : Parts) (c a b : ℕ) → field p 0 ≡ c ∷ [] → numeral (field p 1) ≡ Some a → numeral (field p 2) ≡ Some b → ltb 3 (size_of p) ≡ false → (p ≡ Row c a b) × (a < 100000) × (b < 100000)
unfolding Row
row_fields p c a b e x y o =
    let n = numeral_of (field p 1) a x in
    let m = numeral_of (field p 2) b y in
    let t = three_fields p b y (ltb-false 3 (size_of p) o) in
    let u = n.1 in let v = m.1 in
    (cc, n.0, m.0)

-- what a later line says
pub said_clash : (p : Parts) (a b : ℕ) (k : Kind) → kind_of (field p 0) ≡ k → said false k p ≡ clash a b → (p ≡ Row 112 a b) × (a < 100000) × (b < 100000)
said_clash p a b Size e s = let z : ◌≡◌ {A = ℕ} 0 1 = cc in absurd (omega arith)
said_clash p a b Clash e s =
    let h = both_say clash (numeral (field p 1)) (numeral (field p 2)) (ltb 3 (size_of p)) (clash a b) s (λ j q. let z : ◌≡◌ {A = ℕ} 0 1 = cc in omega arith) in
    let q = h.5 in
    let x : h.0 ≡ a = cc in let y : h.1 ≡ b = cc in
    row_fields p 112 a b (kind_alone (field p 0) Clash e (omega arith)) (h.2 ∙ ap (λ (v : ℕ). Some v) x) (h.3 ∙ ap (λ (v : ℕ). Some v) y) h.4
said_clash p a b Remark e s = let z : ◌≡◌ {A = ℕ} 0 1 = cc in absurd (omega arith)
said_clash p a b End e s =
    elim (cases_Bool (ltb 1 (size_of p))) [
      | inl t ↦ let u = rw t at s in let z : ◌≡◌ {A = ℕ} 0 1 = cc in absurd (omega arith)
      | inr t ↦ let u = rw t at s in let z : ◌≡◌ {A = ℕ} 0 1 = cc in absurd (omega arith)
    ]
said_clash p a b Other e s = let z : ◌≡◌ {A = ℕ} 0 1 = cc in absurd (omega arith)

pub says_clash : (p : Parts) (a b : ℕ) → says false p ≡ clash a b → (p ≡ Row 112 a b) × (a < 100000) × (b < 100000)
unfolding says
says_clash p a b s = said_clash p a b (kind_of (field p 0)) refl s

pub said_size : (p : Parts) (a b : ℕ) (k : Kind) → kind_of (field p 0) ≡ k → said true k p ≡ size a b → (p ≡ Row 115 a b) × (a < 100000) × (b < 100000)
said_size p a b Size e s =
    let h = both_say size (numeral (field p 1)) (numeral (field p 2)) (ltb 3 (size_of p)) (size a b) s (λ j q. let z : ◌≡◌ {A = ℕ} 0 1 = cc in omega arith) in
    let q = h.5 in
    let x : h.0 ≡ a = cc in let y : h.1 ≡ b = cc in
    row_fields p 115 a b (kind_alone (field p 0) Size e (omega arith)) (h.2 ∙ ap (λ (v : ℕ). Some v) x) (h.3 ∙ ap (λ (v : ℕ). Some v) y) h.4
said_size p a b Clash e s = let z : ◌≡◌ {A = ℕ} 0 1 = cc in absurd (omega arith)
said_size p a b Remark e s = let z : ◌≡◌ {A = ℕ} 0 1 = cc in absurd (omega arith)
said_size p a b End e s = let z : ◌≡◌ {A = ℕ} 0 1 = cc in absurd (omega arith)
said_size p a b Other e s = let z : ◌≡◌ {A = ℕ} 0 1 = cc in absurd (omega arith)

pub says_size : (p : Parts) (a b : ℕ) → says true p ≡ size a b → (p ≡ Row 115 a b) × (a < 100000) × (b < 100000)
unfolding says
says_size p a b s = said_size p a b (kind_of (field p 0)) refl s

pub both_not : (say : ℕ → ℕ → Said) (x y : Option ℕ) (o : Bool) (s : Said) → both say x y o ≡ s → ((j : ℕ) → wrong j ≡ s → ⊥) → ((a b : ℕ) → say a b ≡ s → ⊥) → ⊥
both_not say x y o s e n m = let h = both_say say x y o s e n in m h.0 h.1 h.5

pub said_remark : (p : Parts) (k : Kind) → kind_of (field p 0) ≡ k → said false k p ≡ remark → field p 0 ≡ 114 ∷ []
said_remark p Size e s = let z : ◌≡◌ {A = ℕ} 0 1 = cc in absurd (omega arith)
said_remark p Clash e s = absurd (both_not clash (numeral (field p 1)) (numeral (field p 2)) (ltb 3 (size_of p)) remark s (λ j q. let z : ◌≡◌ {A = ℕ} 0 1 = cc in omega arith) (λ a b q. let z : ◌≡◌ {A = ℕ} 0 1 = cc in omega arith))
said_remark p Remark e s = kind_alone (field p 0) Remark e (omega arith)
said_remark p End e s =
    elim (cases_Bool (ltb 1 (size_of p))) [
      | inl t ↦ let u = rw t at s in let z : ◌≡◌ {A = ℕ} 0 1 = cc in absurd (omega arith)
      | inr t ↦ let u = rw t at s in let z : ◌≡◌ {A = ℕ} 0 1 = cc in absurd (omega arith)
    ]
said_remark p Other e s = let z : ◌≡◌ {A = ℕ} 0 1 = cc in absurd (omega arith)

pub says_remark : (p : Parts) → says false p ≡ remark → field p 0 ≡ 114 ∷ []
unfolding says
says_remark p s = said_remark p (kind_of (field p 0)) refl s

pub one_field : (p : Parts) → size_of p ≤ 1 → p ≡ last (field p 0)
one_field (last f) l = refl
one_field (more f (last g)) l = absurd (omega arith)
one_field (more f (more g p)) l = absurd (omega arith)

pub said_ended : (p : Parts) (k : Kind) → kind_of (field p 0) ≡ k → said false k p ≡ ended → p ≡ last (101 ∷ [])
said_ended p Size e s = let z : ◌≡◌ {A = ℕ} 0 1 = cc in absurd (omega arith)
said_ended p Clash e s = absurd (both_not clash (numeral (field p 1)) (numeral (field p 2)) (ltb 3 (size_of p)) ended s (λ j q. let z : ◌≡◌ {A = ℕ} 0 1 = cc in omega arith) (λ a b q. let z : ◌≡◌ {A = ℕ} 0 1 = cc in omega arith))
said_ended p Remark e s = let z : ◌≡◌ {A = ℕ} 0 1 = cc in absurd (omega arith)
said_ended p End e s =
    elim (cases_Bool (ltb 1 (size_of p))) [
      | inl t ↦ let u = rw t at s in let z : ◌≡◌ {A = ℕ} 0 1 = cc in absurd (omega arith)
      | inr t ↦ one_field p (ltb-false 1 (size_of p) t) ∙ ap last (kind_alone (field p 0) End e (omega arith))
    ]
said_ended p Other e s = let z : ◌≡◌ {A = ℕ} 0 1 = cc in absurd (omega arith)

pub says_ended : (p : Parts) → says false p ≡ ended → p ≡ last (101 ∷ [])
unfolding says
says_ended p s = said_ended p (kind_of (field p 0)) refl s

-- a later line never says a size
pub said_never : (p : Parts) (a b : ℕ) (k : Kind) → said false k p ≡ size a b → ⊥
said_never p a b Size s = let z : ◌≡◌ {A = ℕ} 0 1 = cc in omega arith
said_never p a b Clash s = both_not clash (numeral (field p 1)) (numeral (field p 2)) (ltb 3 (size_of p)) (size a b) s (λ j q. let z : ◌≡◌ {A = ℕ} 0 1 = cc in omega arith) (λ x y q. let z : ◌≡◌ {A = ℕ} 0 1 = cc in omega arith)
said_never p a b Remark s = let z : ◌≡◌ {A = ℕ} 0 1 = cc in omega arith
said_never p a b End s =
    elim (cases_Bool (ltb 1 (size_of p))) [
      | inl t ↦ let u = rw t at s in let z : ◌≡◌ {A = ℕ} 0 1 = cc in omega arith
      | inr t ↦ let u = rw t at s in let z : ◌≡◌ {A = ℕ} 0 1 = cc in omega arith
    ]
said_never p a b Other s = let z : ◌≡◌ {A = ℕ} 0 1 = cc in omega arith

-- and back: what the fields say
pub row_says : (a b : ℕ) → a < 100000 → b < 100000 → (says false (Row 112 a b) ≡ clash a b) × (says true (Row 115 a b) ≡ size a b)
unfolding says Row
row_says a b l m =
    let x = numeral_some (decimal a) a (l, refl) in
    let y = numeral_some (decimal b) b (m, refl) in
    (rw (x, y) refl, rw (x, y) refl)

pub end_says : says false (last (101 ∷ [])) ≡ ended
unfolding says
end_says = refl

pub remark_says : (p : Parts) → field p 0 ≡ 114 ∷ [] → says false p ≡ remark
unfolding says
remark_says p e = rw e refl
