-- Each row of rising edges: how long it is, what stands in it, and that it rises.
use Rattle.std.proofs.Common.{◌≡◌, ℕ, zero, suc, ◌<◌, ◌≤◌, true, cond, eqb, ◌⊎◌, List, [], ◌∷◌, ◌++◌, length, get_or, Some, None, Option, refl, ap, ◌∙◌, inl, inr, arith}
use Rattle.std.proofs.lemmas.List.{get_or_append_left, get_or_push}
use Rattle.std.proofs.lemmas.Bool.{cases_Bool, eqb-true, eq-eqb, ne_eqb, cond_both}
use Rattle.std.proofs.lemmas.Bool.Decides.{nat_tests}
use Rattle.finite.specs.Finite.{has}
use Rattle.graph.specs.declared.edge.Edge.{Edge}
use Rattle.graph.specs.Edges.{before, joins, Rising}
use Rattle.listing.specs.Listing.{row_length, row_of}

-- each number of the list passes
abbrev pub Each : (ℕ → Type 0) → List ℕ → Type 0
Each P xs = (i : ℕ) → i < length xs → P (get_or xs i 0)

each_none : (P : ℕ → Type 0) → Each P []
each_none P i l = absurd (omega arith)

each_cons : (P : ℕ → Type 0) (x : ℕ) (xs : List ℕ) → P x → Each P xs → Each P (x ∷ xs)
each_cons P x xs p f zero l = p
each_cons P x xs p f (suc i) l = f i (omega arith)

-- the list rises strictly
abbrev pub Rises : List ℕ → Type 0
Rises xs = (i j : ℕ) → i < j → j < length xs → get_or xs i 0 < get_or xs j 0

rises_cons : (x : ℕ) (xs : List ℕ) → Each (λ v. x < v) xs → Rises xs → Rises (x ∷ xs)
rises_cons x xs f r i zero l m = absurd (omega arith)
rises_cons x xs f r zero (suc j) l m = f j (omega arith)
rises_cons x xs f r (suc i) (suc j) l m = r i j (omega arith) (omega arith)

-- what an edge brings to row c: its other end, where it ends at c
row_cases : (P : List ℕ → Type 0) (e : Edge) (es : List Edge) (c : ℕ) → (c ≡ e.a → P (e.b ∷ row_of es c)) → (c ≡ e.b → P (e.a ∷ row_of es c)) → P (row_of es c) → P (row_of (e ∷ es) c)
unfolding row_of
row_cases P e es c x y z =
    cond_both (eqb c e.a) (e.b ∷ row_of es c) (cond (eqb c e.b) (e.a ∷ row_of es c) (row_of es c)) P (λ h. x (eqb-true c e.a h)) (λ h. cond_both (eqb c e.b) (e.a ∷ row_of es c) (row_of es c) P (λ k. y (eqb-true c e.b k)) (λ k. z))

-- one more edge brings its other end last
pub row_of_push : (es : List Edge) (e : Edge) (c : ℕ) → row_of (es ++ e ∷ []) c ≡ row_of es c ++ row_of (e ∷ []) c
unfolding row_of
row_of_push [] e c = refl
row_of_push (x ∷ es) e c =
    let h = row_of_push es e c in
    elim (cases_Bool (eqb c x.a)) [
      | inl y ↦ rw (y, h) refl
      | inr y ↦ elim (cases_Bool (eqb c x.b)) [ inl z ↦ rw (y, z, h) refl | inr z ↦ rw (y, z, h) refl ]
    ]

row_of_first : (e : Edge) (c : ℕ) → c ≡ e.a → row_of (e ∷ []) c ≡ e.b ∷ []
unfolding row_of
row_of_first e c h = rw (eq-eqb c e.a h) refl

row_of_second : (e : Edge) (c : ℕ) → e.a < e.b → c ≡ e.b → row_of (e ∷ []) c ≡ e.a ∷ []
unfolding row_of
row_of_second e c l h = rw (ne_eqb c e.a (λ q. omega arith), eq-eqb c e.b h) refl

pub row_of_kept : (es : List Edge) (e : Edge) (c i : ℕ) → i < length (row_of es c) → get_or (row_of (es ++ e ∷ []) c) i 0 ≡ get_or (row_of es c) i 0
row_of_kept es e c i l =
    ap (λ xs. get_or xs i 0) (row_of_push es e c) ∙ get_or_append_left (row_of es c) (row_of (e ∷ []) c) 0 i l

pub row_of_new_first : (es : List Edge) (e : Edge) (c i : ℕ) → c ≡ e.a → length (row_of es c) ≡ i → get_or (row_of (es ++ e ∷ []) c) i 0 ≡ e.b
row_of_new_first es e c i h l =
    ap (λ xs. get_or xs i 0) (row_of_push es e c ∙ ap (λ ys. row_of es c ++ ys) (row_of_first e c h)) ∙ get_or_push (row_of es c) e.b 0 i l

pub row_of_new_second : (es : List Edge) (e : Edge) (c i : ℕ) → e.a < e.b → c ≡ e.b → length (row_of es c) ≡ i → get_or (row_of (es ++ e ∷ []) c) i 0 ≡ e.a
row_of_new_second es e c i m h l =
    ap (λ xs. get_or xs i 0) (row_of_push es e c ∙ ap (λ ys. row_of es c ++ ys) (row_of_second e c m h)) ∙ get_or_push (row_of es c) e.a 0 i l

length_row_from : (n : ℕ) (previous : Option Edge) (es : List Edge) (c : ℕ) → Rising n previous es → length (row_of es c) ≡ row_length es c
unfolding row_of
length_row_from n previous [] c r = refl
length_row_from n previous (e ∷ es) c r =
    let h = length_row_from n (Some e) es c r.3 in let l = r.0 in grind (arith, nat_tests)

has_row_from : (n : ℕ) (previous : Option Edge) (es : List Edge) (c b : ℕ) → Rising n previous es → has (row_of es c) b ≡ joins es c b
unfolding row_of has joins
has_row_from n previous [] c b r = refl
has_row_from n previous (e ∷ es) c b r =
    let h = has_row_from n (Some e) es c b r.3 in let l = r.0 in grind (arith, nat_tests)

row_below_from : (n : ℕ) (previous : Option Edge) (es : List Edge) (c : ℕ) → Rising n previous es → Each (λ v. v < n) (row_of es c)
unfolding row_of
row_below_from n previous [] c r = each_none (λ v. v < n)
row_below_from n previous (e ∷ es) c r =
    let h = row_below_from n (Some e) es c r.3 in
    row_cases (Each (λ v. v < n)) e es c (λ x. each_cons (λ v. v < n) e.b (row_of es c) r.1 h) (λ x. each_cons (λ v. v < n) e.a (row_of es c) (omega (arith, r.0, r.1)) h) h

row_other_from : (n : ℕ) (previous : Option Edge) (es : List Edge) (c : ℕ) → Rising n previous es → Each (λ v. v ≡ c → ⊥) (row_of es c)
unfolding row_of
row_other_from n previous [] c r = each_none (λ v. v ≡ c → ⊥)
row_other_from n previous (e ∷ es) c r =
    let h = row_other_from n (Some e) es c r.3 in
    row_cases (Each (λ v. v ≡ c → ⊥)) e es c (λ x. each_cons (λ v. v ≡ c → ⊥) e.b (row_of es c) (λ q. omega (arith, r.0)) h) (λ x. each_cons (λ v. v ≡ c → ⊥) e.a (row_of es c) (λ q. omega (arith, r.0)) h) h

-- the edge of c and low does not come after p, so that the edges above p bring row c more than low
abbrev Past : ℕ → ℕ → Edge → Type 0
Past c low p = ((low < c) × ((low < p.a) ⊎ ((low ≡ p.a) × (c ≤ p.b)))) ⊎ ((c < low) × ((c < p.a) ⊎ ((c ≡ p.a) × (low ≤ p.b))))

past_on : (c low : ℕ) (p f : Edge) → Past c low p → before p f ≡ true → Past c low f
past_on c low p f w e = grind (arith, nat_tests)

past_first : (c low : ℕ) (p f : Edge) → Past c low p → before p f ≡ true → f.a < f.b → c ≡ f.a → low < f.b
past_first c low p f w e l x = grind (arith, nat_tests)

past_second : (c low : ℕ) (p f : Edge) → Past c low p → before p f ≡ true → f.a < f.b → c ≡ f.b → low < f.a
past_second c low p f w e l x = grind (arith, nat_tests)

row_past : (n : ℕ) (p : Edge) (es : List Edge) (c low : ℕ) → Rising n (Some p) es → Past c low p → Each (λ v. low < v) (row_of es c)
unfolding row_of
row_past n p [] c low r w = each_none (λ v. low < v)
row_past n p (e ∷ es) c low r w =
    let h = row_past n e es c low r.3 (past_on c low p e w r.2) in
    row_cases (Each (λ v. low < v)) e es c (λ x. each_cons (λ v. low < v) e.b (row_of es c) (past_first c low p e w r.2 r.0 x) h) (λ x. each_cons (λ v. low < v) e.a (row_of es c) (past_second c low p e w r.2 r.0 x) h) h

row_rises_from : (n : ℕ) (previous : Option Edge) (es : List Edge) (c : ℕ) → Rising n previous es → Rises (row_of es c)
unfolding row_of
row_rises_from n previous [] c r = λ i j l m. absurd (omega arith)
row_rises_from n previous (e ∷ es) c r =
    let h = row_rises_from n (Some e) es c r.3 in
    row_cases Rises e es c (λ x. rises_cons e.b (row_of es c) (row_past n e es c e.b r.3 (inr (omega (arith, r.0), inr (x, omega arith)))) h) (λ x. rises_cons e.a (row_of es c) (row_past n e es c e.a r.3 (inl (omega (arith, r.0), inr (refl, omega arith)))) h) h

-- with rising edges, row c has a place for each edge that ends at c
pub length_row : (n : ℕ) (es : List Edge) (c : ℕ) → Rising n None es → length (row_of es c) ≡ row_length es c
length_row n es c r = length_row_from n None es c r

-- the neighbours of c stand in it
pub has_row : (n : ℕ) (es : List Edge) (c b : ℕ) → Rising n None es → has (row_of es c) b ≡ joins es c b
has_row n es c b r = has_row_from n None es c b r

-- they are below n
pub row_below : (n : ℕ) (es : List Edge) (c : ℕ) → Rising n None es → Each (λ v. v < n) (row_of es c)
row_below n es c r = row_below_from n None es c r

-- they differ from c
pub row_other : (n : ℕ) (es : List Edge) (c : ℕ) → Rising n None es → Each (λ v. v ≡ c → ⊥) (row_of es c)
row_other n es c r = row_other_from n None es c r

-- and they rise
pub row_rises : (n : ℕ) (es : List Edge) (c : ℕ) → Rising n None es → Rises (row_of es c)
row_rises n es c r = row_rises_from n None es c r
