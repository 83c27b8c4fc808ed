-- What is printed, case by case.
use Rattle.std.proofs.Common.{◌≡◌, ℕ, ◌≤◌, ◌⊎◌, List, [], ◌∷◌, ◌++◌, length, take, Result, Ok, Err, sym, ap, ◌∙◌, subst, inl, inr, arith}
use Rattle.graph.specs.declared.refusal.Refusal.{Refusal}
use Rattle.graph.specs.declared.refusal.Refusal.TheVariants.{TooDense, NoMemory}
use Rattle.finite.proofs.Members.{length_members}
use Rattle.climbing.specs.Climbs.{BlockIn, LargestAmong}
use Rattle.order.specs.Order.{Dense}
use Rattle.graph.specs.Graph.{held, vertices}
use Rattle.graph.specs.Refusals.{number}
use Rattle.graph.proofs.Graphs.{vertices_le}
use Rattle.rows.specs.Rows.{listed, rows}
use Rattle.fields.specs.Rows.{numbers_line}
use Rattle.plan.specs.Plan.{PlannedIn, PlanRefused}
use Rattle.sources.specs.declared.list_form.ListForm.{ListForm}
use Rattle.printout.specs.Printed.{Answers, drive_lines, refusal}
use Rattle.printout.proofs.Prints.{drives_take}
use Rattle.sizing.specs.Sized.{printout, FormSized, Prints}

-- what is printed where a stock is sized
pub prints_answer : {V : Type 0} (text : V → List ℕ) (returns : ListForm → Result V Refusal → Type 0) (s out : List ℕ) → ((form : ListForm) (v : V) → returns form (Ok v) → FormSized form.offsets.items form.neighbours.items (text v)) → ((form : ListForm) (x : Refusal) → returns form (Err x) → ((x ≡ TooDense) × Dense (listed form.offsets.items form.neighbours.items)) ⊎ (x ≡ NoMemory)) → Answers text returns s out → Prints s out
prints_answer text returns s out f g (inl u) = inl u
prints_answer text returns s out f g (inr (inl u)) = inr (inl u)
prints_answer text returns s out f g (inr (inr (l, inl u))) = inr (inr (l, inl u))
prints_answer text returns s out f g (inr (inr (l, inr w))) =
    elim w.answer [
      | inl u ↦ inr (inr (l, inr (inr (record { offsets = w.form.offsets.items; neighbours = w.form.neighbours.items; stock = w.stock; form = subst (FormSized w.form.offsets.items w.form.neighbours.items) (sym u.2) (f w.form u.0 u.1) }))))
      | inr u ↦ elim (g w.form u.0 u.1) [
        | inl d ↦ inr (inr (l, inr (inl (u.2 ∙ ap (λ (y : Refusal). refusal (number y) 0 0) d.0, record { offsets = w.form.offsets.items; neighbours = w.form.neighbours.items; stock = w.stock; dense = d.1 }))))
        | inr m ↦ inr (inl (u.2 ∙ ap (λ (y : Refusal). refusal (number y) 0 0) m, l))
      ]
    ]

-- the buffers suffice
pub plan_dense : (os ns : List ℕ) (x : Refusal) (room paint : ℕ) → rows os ≤ 1024 → room ≡ 1024 → paint ≡ 1024 → PlanRefused (listed os ns) room paint x → (x ≡ TooDense) × Dense (listed os ns)
plan_dense os ns x room paint a r p (inl u) =
    let v = vertices_le (listed os ns) in elim u.1 [ inl h ↦ absurd (omega arith) | inr h ↦ absurd (omega arith) ]
plan_dense os ns x room paint a r p (inr u) = (u.0, u.3)

pub form_sized : (os ns before after paint painted kept block part out : List ℕ) (len d k n b : ℕ) → n ≡ rows os → PlannedIn (listed os ns) before after paint painted len d k → d ≤ 63 → BlockIn (listed os ns) (held (listed os ns)) kept b → block ≡ take b kept → part ≡ take n painted → length part ≡ n → out ≡ printout (length part) len d k block part → FormSized os ns out
form_sized os ns before after paint painted kept block part out len d k n b z p h w g e m t =
    let c : length block ≡ b = ap length (g ∙ w.front) ∙ length_members w.set (rows os) ∙ w.largest.many in
    let lead = λ (v : ℕ). numbers_line 110 (v ∷ d ∷ length block ∷ k ∷ []) ++ numbers_line 107 block in
    let q : out ≡ printout (rows os) (vertices (listed os ns)) d k block painted =
    t ∙ ap (λ (i : ℕ). printout i len d k block part) m ∙ ap (λ xs. printout n len d k block xs) e
    ∙ ap (λ y. lead len ++ y) (drives_take painted n n (omega arith))
    ∙ ap (λ (v : ℕ). lead v ++ drive_lines painted n) p.ordered.len_is
    ∙ ap (λ (i : ℕ). lead (vertices (listed os ns)) ++ drive_lines painted i) z in
    record {
      degeneracy = d;
      drives = k;
      plan = painted;
      block = block;
      first = record {
        order = take len after;
        is_order = p.ordered.order;
        degeneracy = p.ordered.degeneracy;
        sparse = h;
        plan = p.plan;
        proper = p.proper;
        within = p.coloured;
        drives = p.drives_are;
      };
      largest = record { set = w.set; largest = subst (LargestAmong (listed os ns) (held (listed os ns)) w.set) (sym c) w.largest; rising = g ∙ w.front };
      text = q;
    }
