-- What is printed, case by case.
use Rattle.std.proofs.Common.{◌≡◌, ℕ, zero, suc, ◌+◌, ◌≤◌, Bool, cond, List, [], ◌∷◌, ◌++◌, length, get_or, take, Some, None, Option, subst, IfSome, Result, Ok, Err, sym, refl, ap, ◌∙◌, inl, inr, add-one, arith}
use Rattle.std.specs.Option.{option_map}
use Rattle.std.proofs.lemmas.Bool.{le-ltb, lt-ltb}
use Rattle.std.proofs.lemmas.List.{append_assoc, append-nil, get_or-take}
use Rattle.graph.specs.declared.refusal.Refusal.{Refusal}
use Rattle.graph.specs.declared.refusal.Refusal.TheVariants.{NoMemory}
use Rattle.graph.specs.Edges.{edge_list}
use Rattle.rows.specs.Rows.{listed, rows}
use Rattle.graph.specs.Refusals.{number}
use Rattle.fields.specs.Rows.{numbers_line}
use Rattle.graph.specs.declared.edge.Edge.{Edge}
use Rattle.grammar.specs.Sheet.{Outcome, outcome, states, fault, written}
use Rattle.grammar.proofs.Forth.{reads_states}
use Rattle.lines.specs.declared.Fault.{Fault}
use Rattle.lines.specs.Kept.{line_of, field_of, Unplaced}
use Rattle.sheets.specs.Loaded.{Loaded, Rewritten}
use Rattle.sheets.proofs.Stocks.{rewrites}
use Rattle.sources.specs.declared.list_form.ListForm.{ListForm}
use Rattle.printout.specs.Printed.{Answers, Prints, Rewrites, drive_lines, refusal, told, printed}

pub clean_printed : (s t : List ℕ) → length s ≤ 65536 → Rewritten s t → t ≡ printed s
clean_printed s t l w =
    let o = reads_states s w.size w.edges w.first in
    w.clean ∙ sym (ap (λ (v : Bool). cond v (refusal 7 0 0) (told (outcome s))) (le-ltb 65536 (length s) l) ∙ ap told o)

-- the line of a fault of no line
pub unplaced_refusal : (x : Refusal) (f : Fault) → Unplaced x f → refusal (number f.refusal) (line_of f.place) (field_of f.place) ≡ refusal (number x) 0 0
unplaced_refusal x f u =
    ap (λ (y : Refusal). refusal (number y) (line_of f.place) (field_of f.place)) u.refusal ∙ ap (λ o. refusal (number x) (line_of o) (field_of o)) u.place

pub answers_no : {V : Type 0} {text : V → List ℕ} {returns : ListForm → Result V Refusal → Type 0} (s : List ℕ) (form : ListForm) (x : Refusal) (f : Fault) → length s ≤ 65536 → Loaded s form.offsets.items form.neighbours.items → returns form (Err x) → Unplaced x f → Answers text returns s (refusal (number f.refusal) (line_of f.place) (field_of f.place))
answers_no s form x f l w r u =
    inr (inr (l, inr (record { form = form; stock = w; answer = inr (x, r, unplaced_refusal x f u) })))

pub answers_yes : {V : Type 0} {text : V → List ℕ} {returns : ListForm → Result V Refusal → Type 0} (s : List ℕ) (form : ListForm) (v : V) → length s ≤ 65536 → Loaded s form.offsets.items form.neighbours.items → returns form (Ok v) → Answers text returns s (text v)
answers_yes s form v l w r = inr (inr (l, inr (record { form = form; stock = w; answer = inl (v, r, refl) })))

-- the lines of the drives, one by one
pub drives_none : (col front : List ℕ) → front ≡ front ++ drive_lines col 0
unfolding drive_lines
drives_none col front = sym (append-nil front)

pub drives_more : (col front out new : List ℕ) (c : ℕ) → out ≡ front ++ drive_lines col c → new ≡ out ++ numbers_line 100 (c ∷ get_or col c 0 ∷ []) → new ≡ front ++ drive_lines col (c + 1)
unfolding drive_lines
drives_more col front out new c e f =
    f ∙ ap (λ x. x ++ numbers_line 100 (c ∷ get_or col c 0 ∷ [])) e ∙ append_assoc front (drive_lines col c) (numbers_line 100 (c ∷ get_or col c 0 ∷ []))
    ∙ ap (λ (i : ℕ). front ++ drive_lines col i) (sym (add-one c))

-- a longer list has the same first lines
pub drives_take : (col : List ℕ) (m n : ℕ) → n ≤ m → drive_lines (take m col) n ≡ drive_lines col n
unfolding drive_lines
drives_take col m zero l = refl
drives_take col m (suc n) l =
    ap (λ x. x ++ numbers_line 100 (n ∷ get_or (take m col) n 0 ∷ [])) (drives_take col m n (omega arith))
    ∙ ap (λ (v : ℕ). drive_lines col n ++ numbers_line 100 (n ∷ v ∷ [])) (get_or-take m col n 0 (omega arith))

-- what is printed where the stock is written as a sheet
pub prints_clean : {V : Type 0} (text : V → List ℕ) (returns : ListForm → Result V Refusal → Type 0) (s out : List ℕ) → ((form : ListForm) (v : V) → returns form (Ok v) → text v ≡ written (rows form.offsets.items) (edge_list (listed form.offsets.items form.neighbours.items))) → ((form : ListForm) (x : Refusal) → returns form (Err x) → x ≡ NoMemory) → Answers text returns s out → Prints s out
prints_clean text returns s out f g (inl u) =
    inl (u.0 ∙ sym (ap (λ (v : Bool). cond v (refusal 7 0 0) (told (outcome s))) (lt-ltb 65536 (length s) u.1)))
prints_clean text returns s out f g (inr (inl u)) = inr u.0
prints_clean text returns s out f g (inr (inr (l, inl u))) =
    inl (u.5 ∙ sym (ap (λ (v : Bool). cond v (refusal 7 0 0) (told (outcome s))) (le-ltb 65536 (length s) l) ∙ ap told u.4))
prints_clean text returns s out f g (inr (inr (l, inr w))) =
    elim w.answer [
      | inl u ↦ inl (u.2 ∙ clean_printed s (text u.0) l (rewrites s _ _ (text u.0) w.stock (f w.form u.0 u.1)))
      | inr u ↦ inr (u.2 ∙ ap (λ (y : Refusal). refusal (number y) 0 0) (g w.form u.0 u.1))
    ]

-- what states a stock is no fault
abbrev stated : Outcome → Type 0
stated (states n es) = Unit
stated (fault x k j shown) = ⊥

stated_fault : {n x k j : ℕ} {es : List Edge} {shown : List ℕ} → states n es ≡ fault x k j shown → ⊥
stated_fault e = subst stated e tt

-- where the stock is written as a sheet, a good sheet is written back
pub rewrites_clean : {V : Type 0} (text : V → List ℕ) (returns : ListForm → Result V Refusal → Type 0) (s out : List ℕ) → ((form : ListForm) (v : V) → returns form (Ok v) → text v ≡ written (rows form.offsets.items) (edge_list (listed form.offsets.items form.neighbours.items))) → ((form : ListForm) (x : Refusal) → returns form (Err x) → x ≡ NoMemory) → Answers text returns s out → Rewrites s out
rewrites_clean text returns s out f g (inl u) = λ l n es o. absurd (omega (arith, l, u.1))
rewrites_clean text returns s out f g (inr (inl u)) = λ l n es o. inr u.0
rewrites_clean text returns s out f g (inr (inr (_, inl u))) = λ l n es o. absurd (stated_fault (sym o ∙ u.4))
rewrites_clean text returns s out f g (inr (inr (_, inr w))) = λ l n es o.
    elim w.answer [
      | inl u ↦ inl (subst (Rewritten s) (sym u.2) (rewrites s _ _ (text u.0) w.stock (f w.form u.0 u.1)))
      | inr u ↦ inr (u.2 ∙ ap (λ (y : Refusal). refusal (number y) 0 0) (g w.form u.0 u.1))
    ]

-- what is known only where a value is
pub where_known : {A : Type 0} {P : A → Type 0} (o : Option A) → ((x : A) → o ≡ Some x → P x) → IfSome o P
where_known None f = tt
where_known (Some x) f = f x refl

-- what was read of known bytes
pub bytes_read : (o p : Option (List ℕ)) (k : ℕ) (bytes none read : List ℕ) → o ≡ Some bytes → p ≡ option_map (take k) o → none ≡ [] → IfSome p (λ xs. read ≡ none ++ xs) → read ≡ take k bytes
bytes_read o p k bytes none read e f z h =
    let s : p ≡ Some (take k bytes) = f ∙ ap (option_map (take k)) e in
    subst (λ q. IfSome q (λ xs. read ≡ none ++ xs)) s h ∙ ap (λ ys. ys ++ take k bytes) z
