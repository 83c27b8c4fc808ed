-- What a line says, from its first field and what is left behind it.
use Rattle.std.proofs.Common.{◌≡◌, ℕ, ◌+◌, ◌-◌, ◌<◌, ◌≤◌, Bool, true, false, ltb, ◌⊎◌, inl, inr, List, Some, Option, sym, refl, ap, ◌∙◌, arith}
use Rattle.std.proofs.lemmas.Bool.{lt-ltb, le-ltb}
use Rattle.std.proofs.lemmas.Bool.Decides.{nat_tests}
use Rattle.fields.specs.Numerals.{numeral}
use Rattle.fields.specs.Parts.{Parts, last, more, parts}
use Rattle.grammar.specs.declared.Kind.{Kind}
use Rattle.grammar.specs.declared.Kind.TheVariants.{Size, Clash, Remark, End, Other}
use Rattle.grammar.specs.Lines.{field, size_of, kind_of, Said, ended, wrong, both, said, says}
use Rattle.lines.specs.Rest.{Next, fields_of, count_of}
use Rattle.lines.specs.Kept.{field_of, IsFault, TwoKept, TwoFault, LineFault}
use Rattle.lines.specs.declared.Fault.{Fault}
use Rattle.lines.specs.declared.Two.{Two}

pub size_pos : (p : Parts) → 1 ≤ size_of p
size_pos (last f) = omega arith
size_pos (more f p) = omega arith

pub says_at : (first : Bool) (text front : List ℕ) (rest : Option (List ℕ)) (k : Kind) → Next (Some text) front rest → k ≡ kind_of front → says first (parts 9 text) ≡ said first k (parts 9 text)
unfolding says
says_at first text front rest k n e = ap (λ x. said first x (parts 9 text)) (ap kind_of n.first ∙ sym e)

-- the same fault, at the field that it names
pub at_field : (text : List ℕ) (at j : ℕ) (bytes : List ℕ) (f : Fault) → IsFault 9 at j bytes f → bytes ≡ field (parts 9 text) (j - 1) → IsFault 9 at (field_of f.place) (field (parts 9 text) (field_of f.place - 1)) f
at_field text at j bytes f i e =
    record { code = i.code; line = i.line; field = refl; shown = i.shown ∙ e ∙ ap (λ (x : ℕ). field (parts 9 text) (x - 1)) (sym i.field) }

pub line_fault : (first : Bool) (text : List ℕ) (at j : ℕ) (f : Fault) (bytes : List ℕ) → says first (parts 9 text) ≡ wrong j → IsFault 9 at j bytes f → bytes ≡ field (parts 9 text) (j - 1) → LineFault first text at f
line_fault first text at j f bytes s i e =
    record { says = s ∙ ap (λ (x : ℕ). wrong x) (sym i.field); fault_is = at_field text at j bytes f i e }

-- what may not stand in a first line, and in a later one
pub said_first : (k : Kind) → (k ≡ Size → ⊥) → (p : Parts) → said true k p ≡ wrong 1
said_first Size h p = absurd (h refl)
said_first Clash h p = refl
said_first Remark h p = refl
said_first End h p = refl
said_first Other h p = refl

pub said_later : (k : Kind) → (k ≡ Size) ⊎ (k ≡ Other) → (p : Parts) → said false k p ≡ wrong 1
said_later k (inl e) p = rw e refl
said_later k (inr e) p = rw e refl

pub fault_first : (first : Bool) (text front : List ℕ) (rest : Option (List ℕ)) (k : Kind) (at : ℕ) (f : Fault) → Next (Some text) front rest → k ≡ kind_of front → said first k (parts 9 text) ≡ wrong 1 → IsFault 9 at 1 front f → LineFault first text at f
fault_first first text front rest k at f n e s i =
    line_fault first text at 1 f front (says_at first text front rest k n e ∙ s) i (sym n.first)

pub surplus : (text front : List ℕ) (rest : Option (List ℕ)) → Next (Some text) front rest → ltb 3 (size_of (parts 9 text)) ≡ ltb 2 (count_of rest)
surplus text front rest n = let a = size_pos (parts 9 text) in let b = n.fewer in grind (arith, nat_tests)

pub both_at : (text front : List ℕ) (rest : Option (List ℕ)) (say : ℕ → ℕ → Said) → Next (Some text) front rest → both say (numeral (field (parts 9 text) 1)) (numeral (field (parts 9 text) 2)) (ltb 3 (size_of (parts 9 text))) ≡ both say (numeral (fields_of rest 0)) (numeral (fields_of rest 1)) (ltb 2 (count_of rest))
both_at text front rest say n =
    ap (λ x. both say (numeral x) (numeral (field (parts 9 text) 2)) (ltb 3 (size_of (parts 9 text)))) (n.later 0)
    ∙ ap (λ x. both say (numeral (fields_of rest 0)) (numeral x) (ltb 3 (size_of (parts 9 text)))) (n.later 1)
    ∙ ap (both say (numeral (fields_of rest 0)) (numeral (fields_of rest 1))) (surplus text front rest n)

pub both_kept : (rest : Option (List ℕ)) (t : Two) (say : ℕ → ℕ → Said) → TwoKept rest t → both say (numeral (fields_of rest 0)) (numeral (fields_of rest 1)) (ltb 2 (count_of rest)) ≡ say t.a.value t.b.value
both_kept rest t say k = rw (k.first.value, k.second.value, k.whole) refl

pub two_kept : (text front : List ℕ) (rest : Option (List ℕ)) (t : Two) (say : ℕ → ℕ → Said) (first : Bool) (k : Kind) → Next (Some text) front rest → TwoKept rest t → k ≡ kind_of front → said first k (parts 9 text) ≡ both say (numeral (field (parts 9 text) 1)) (numeral (field (parts 9 text) 2)) (ltb 3 (size_of (parts 9 text))) → (says first (parts 9 text) ≡ say t.a.value t.b.value) × (t.a.shown.now ≡ field (parts 9 text) 1) × (t.b.shown.now ≡ field (parts 9 text) 2)
two_kept text front rest t say first k n w e s = (
  says_at first text front rest k n e ∙ s ∙ both_at text front rest say n ∙ both_kept rest t say w,
  w.first.shown ∙ sym (n.later 0),
  w.second.shown ∙ sym (n.later 1),
)

pub two_fault : (text front : List ℕ) (rest : Option (List ℕ)) (f : Fault) (say : ℕ → ℕ → Said) (first : Bool) (k : Kind) (at : ℕ) → Next (Some text) front rest → TwoFault rest at f → k ≡ kind_of front → said first k (parts 9 text) ≡ both say (numeral (field (parts 9 text) 1)) (numeral (field (parts 9 text) 2)) (ltb 3 (size_of (parts 9 text))) → LineFault first text at f
two_fault text front rest f say first k at n w e s =
    let g = w.place in
    let j = field_of f.place in
    let z : j - 2 + 1 ≡ j - 1 = omega arith in
    line_fault first text at j f (fields_of rest (j - 2)) (says_at first text front rest k n e ∙ s ∙ both_at text front rest say n ∙ w.says say) w.fault_is
    (sym (n.later (j - 2)) ∙ ap (λ (x : ℕ). field (parts 9 text) x) z)

pub end_kept : (text front : List ℕ) (rest : Option (List ℕ)) → Next (Some text) front rest → End ≡ kind_of front → count_of rest ≡ 0 → says false (parts 9 text) ≡ ended
end_kept text front rest n e z =
    let o : ltb 1 (size_of (parts 9 text)) ≡ false = (let b = n.fewer in le-ltb 1 (size_of (parts 9 text)) (omega arith)) in
    says_at false text front rest End n e ∙ rw o refl

pub end_fault : (text front : List ℕ) (rest : Option (List ℕ)) (at : ℕ) (f : Fault) → Next (Some text) front rest → End ≡ kind_of front → 0 < count_of rest → IsFault 9 at 2 (fields_of rest 0) f → LineFault false text at f
end_fault text front rest at f n e z i =
    let o : ltb 1 (size_of (parts 9 text)) ≡ true = (let b = n.fewer in lt-ltb 1 (size_of (parts 9 text)) (omega arith)) in
    line_fault false text at 2 f (fields_of rest 0) (says_at false text front rest End n e ∙ rw o refl) i (sym (n.later 0))
