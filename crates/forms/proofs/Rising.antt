-- A rising list of edges is told by the pairs that it joins.
use Rattle.std.proofs.Common.{◌≡◌, ℕ, ◌<◌, true, false, ◌⊎◌, List, [], ◌∷◌, Some, None, Option, sym, refl, ap, ◌∙◌, subst, inl, inr, arith}
use Rattle.std.proofs.lemmas.Bool.{false≢true, cases_Bool, or_cases, or_left}
use Rattle.std.proofs.lemmas.Bool.Decides.{nat_tests}
use Rattle.graph.specs.declared.edge.Edge.{Edge}
use Rattle.graph.specs.Edges.{edge, before, Rising, ends, joins}

-- an edge has its own ends, and among pairs with the smaller first no others
pub ends_self : (e : Edge) → ends e e.a e.b ≡ true
ends_self e = grind (arith, nat_tests)

pub ends_are : (e : Edge) (a b : ℕ) → e.a < e.b → a < b → ends e a b ≡ true → (a ≡ e.a) × (b ≡ e.b)
ends_are e a b l m h = (grind (arith, nat_tests), grind (arith, nat_tests))

pub before_trans : (e f h : Edge) → before e f ≡ true → before f h ≡ true → before e h ≡ true
before_trans e f h x y = grind (arith, nat_tests)

pub before_once : (e f : Edge) → before e f ≡ true → before f e ≡ true → ⊥
before_once e f x y = grind (arith, nat_tests)

pub edge_eq : (e f : Edge) → e.a ≡ f.a → e.b ≡ f.b → e ≡ f
edge_eq e f p q = ap (λ (v : ℕ). edge v e.b) p ∙ ap (edge f.a) q

-- each edge that rises behind e comes after e
pub joins_later : (n : ℕ) (e : Edge) (es : List Edge) → Rising n (Some e) es → (a b : ℕ) → a < b → joins es a b ≡ true → before e (edge a b) ≡ true
unfolding joins
joins_later n e [] r a b l h = absurd (false≢true h)
joins_later n e (f ∷ es) r a b l h =
    elim (or_cases (ends f a b) (joins es a b) h) [
      | inl y ↦ let q = ends_are f a b r.0 l y in let k = r.2 in grind (arith, nat_tests)
      | inr y ↦ before_trans e f (edge a b) r.2 (joins_later n f es r.3 a b l y)
    ]

-- an edge does not stand again behind itself
pub joins_head : (n : ℕ) (e : Edge) (es : List Edge) → Rising n (Some e) es → (a b : ℕ) → a < b → ends e a b ≡ true → e.a < e.b → joins es a b ≡ false
joins_head n e es r a b l h m =
    elim (cases_Bool (joins es a b)) [
      | inl y ↦ let q = ends_are e a b m l h in
          let k = joins_later n e es r a b l y in absurd (grind (arith, nat_tests))
      | inr y ↦ y
    ]

-- where a rising list joins the ends of e, its first edge is e or comes before it
pub joins_first : (n : ℕ) (o : Option Edge) (e f : Edge) (fs : List Edge) → e.a < e.b → Rising n o (f ∷ fs) → joins (f ∷ fs) e.a e.b ≡ true → (e ≡ f) ⊎ (before f e ≡ true)
unfolding joins
joins_first n o e f fs l r h =
    elim (or_cases (ends f e.a e.b) (joins fs e.a e.b) h) [
      | inl y ↦ let q = ends_are f e.a e.b r.0 l y in inl (edge_eq e f q.0 q.1)
      | inr y ↦ inr (joins_later n f fs r.3 e.a e.b l y)
    ]

-- the two lists join the same pairs of vertices below n, the smaller first
abbrev pub SameJoins : ℕ → List Edge → List Edge → Type 0
SameJoins n es fs = (a b : ℕ) → a < b → b < n → joins es a b ≡ joins fs a b

pub joins_own : (e : Edge) (es : List Edge) → joins (e ∷ es) e.a e.b ≡ true
unfolding joins
joins_own e es = or_left (ends e e.a e.b) (joins es e.a e.b) (ends_self e)

pub heads_same : (n : ℕ) (o p : Option Edge) (e f : Edge) (es fs : List Edge) → Rising n o (e ∷ es) → Rising n p (f ∷ fs) → SameJoins n (e ∷ es) (f ∷ fs) → e ≡ f
heads_same n o p e f es fs r t s =
    elim (joins_first n p e f fs r.0 t (sym (s e.a e.b r.0 r.1) ∙ joins_own e es)) [
      | inl y ↦ y
      | inr y ↦ elim (joins_first n o f e es t.0 r (s f.a f.b t.0 t.1 ∙ joins_own f fs)) [
        | inl z ↦ sym z
        | inr z ↦ absurd (before_once e f z y)
      ]
    ]

pub tails_same : (n : ℕ) (e : Edge) (es fs : List Edge) → e.a < e.b → Rising n (Some e) es → Rising n (Some e) fs → SameJoins n (e ∷ es) (e ∷ fs) → SameJoins n es fs
unfolding joins
tails_same n e es fs h r t s a b l m =
    elim (cases_Bool (ends e a b)) [
      | inl y ↦ joins_head n e es r a b l y h ∙ sym (joins_head n e fs t a b l y h)
      | inr y ↦ let q = s a b l m in rw y at q
    ]

pub rising_same : (n : ℕ) (o p : Option Edge) (es fs : List Edge) → Rising n o es → Rising n p fs → SameJoins n es fs → es ≡ fs
unfolding joins
rising_same n o p [] [] r t s = refl
rising_same n o p [] (f ∷ fs) r t s = absurd (false≢true (s f.a f.b t.0 t.1 ∙ joins_own f fs))
rising_same n o p (e ∷ es) [] r t s = absurd (false≢true (sym (s e.a e.b r.0 r.1) ∙ joins_own e es))
rising_same n o p (e ∷ es) (f ∷ fs) r t s =
    let q = heads_same n o p e f es fs r t s in
    let u : Rising n (Some e) fs = subst (λ (v : Edge). Rising n (Some v) fs) (sym q) t.3 in
    let k : SameJoins n (e ∷ es) (e ∷ fs) = subst (λ (v : Edge). SameJoins n (e ∷ es) (v ∷ fs)) (sym q) s in
    let z = rising_same n (Some e) (Some e) es fs r.3 u (tails_same n e es fs r.0 r.3 u k) in
    cc

pub rising_one : (n : ℕ) (es fs : List Edge) → Rising n None es → Rising n None fs → ((a b : ℕ) → joins es a b ≡ joins fs a b) → es ≡ fs
rising_one n es fs r t s = rising_same n None None es fs r t (λ a b _ _. s a b)
