-- The lines of a trial, one by one.
use Rattle.std.proofs.Common.{◌≡◌, ℕ, suc, ◌+◌, ◌-◌, ◌≤◌, ◌⊎◌, List, [], ◌∷◌, ◌++◌, Result, Ok, Err, sym, ap, ◌∙◌, subst, inl, inr, arith}
use Rattle.std.proofs.lemmas.List.{append_assoc, append-nil}
use Rattle.fields.specs.Rows.{numbers_line}
use Rattle.graph.specs.declared.refusal.Refusal.{Refusal}
use Rattle.graph.specs.declared.refusal.Refusal.TheVariants.{TooDense, TooWide, NoMemory}
use Rattle.graph.specs.Refusals.{number}
use Rattle.rows.specs.Rows.{listed}
use Rattle.sources.specs.declared.list_form.ListForm.{ListForm}
use Rattle.printout.specs.Printed.{Answers, refusal}
use Rattle.trying.specs.Trying.{TryRefused}
use Rattle.trying.specs.Shown.{no_lines, try_lines, Prints, Shown, Told}

pub noes_none : (start : List ℕ) (first : ℕ) → start ≡ start ++ no_lines first (first - first)
unfolding no_lines
noes_none start first =
    let z : first - first ≡ 0 = omega arith in sym (ap (λ (i : ℕ). start ++ no_lines first i) z ∙ append-nil start)

pub noes_more : (start out new : List ℕ) (first k : ℕ) → first ≤ k → out ≡ start ++ no_lines first (k - first) → new ≡ out ++ numbers_line 116 (k ∷ 0 ∷ []) → new ≡ start ++ no_lines first (k + 1 - first)
unfolding no_lines
noes_more start out new first k l e f =
    let a : first + (k - first) ≡ k = omega arith in
    let b : suc (k - first) ≡ k + 1 - first = omega arith in
    f ∙ ap (λ x. x ++ numbers_line 116 (k ∷ 0 ∷ [])) e ∙ append_assoc start (no_lines first (k - first)) (numbers_line 116 (k ∷ 0 ∷ []))
    ∙ ap (λ (i : ℕ). start ++ (no_lines first (k - first) ++ numbers_line 116 (i ∷ 0 ∷ []))) (sym a)
    ∙ ap (λ (i : ℕ). start ++ no_lines first i) b

pub noes_all : (start out new : List ℕ) (first k drives : ℕ) → k ≡ drives → out ≡ start ++ no_lines first (k - first) → new ≡ out ++ numbers_line 116 (drives ∷ 1 ∷ []) → new ≡ start ++ try_lines first drives
noes_all start out new first k drives z e f =
    f ∙ ap (λ x. x ++ numbers_line 116 (drives ∷ 1 ∷ [])) (e ∙ ap (λ (i : ℕ). start ++ no_lines first (i - first)) z)
    ∙ append_assoc start (no_lines first (drives - first)) (numbers_line 116 (drives ∷ 1 ∷ []))

-- what is printed where a stock is tried
pub prints_answer : {V : Type 0} (text : V → List ℕ) (returns : ListForm → Result V Refusal → Type 0) (s out : List ℕ) → ((form : ListForm) (v : V) → returns form (Ok v) → Shown (listed form.offsets.items form.neighbours.items) (text v)) → ((form : ListForm) (x : Refusal) → returns form (Err x) → TryRefused (listed form.offsets.items form.neighbours.items) x ⊎ (x ≡ NoMemory)) → Answers text returns s out → Prints s out
prints_answer text returns s out f g (inl u) = inl u
prints_answer text returns s out f g (inr (inl u)) = inr (inl u)
prints_answer text returns s out f g (inr (inr (l, inl u))) = inr (inr (l, inl u))
prints_answer text returns s out f g (inr (inr (l, inr w))) =
    elim w.answer [
      | inl u ↦ told (inr (inr (subst (Shown (listed w.form.offsets.items w.form.neighbours.items)) (sym u.2) (f w.form u.0 u.1))))
      | inr u ↦ elim (g w.form u.0 u.1) [
        | inl (inl d) ↦ told (inl (u.2 ∙ same u.0 TooDense d.0, d.1))
        | inl (inr d) ↦ told (inr (inl (u.2 ∙ same u.0 TooWide d.0, d.1)))
        | inr m ↦ inr (inl (u.2 ∙ same u.0 NoMemory m, l))
      ]
    ]
  where
    told : Told (listed w.form.offsets.items w.form.neighbours.items) out → Prints s out
    told t = inr (inr (l, inr (record { offsets = w.form.offsets.items; neighbours = w.form.neighbours.items; stock = w.stock; told = t })))

    same : (x y : Refusal) → x ≡ y → refusal (number x) 0 0 ≡ refusal (number y) 0 0
    same x y e = ap (λ (z : Refusal). refusal (number z) 0 0) e
