-- What a line keeps of its fields, and what a fault says.
use Rattle.std.specs.Prelude.{◌≡◌, ℕ, ◌-◌, ◌≤◌, Bool, false, List, [], Some, None, Option, nat_lt}
use Rattle.fields.specs.Numerals.{numeral}
use Rattle.fields.specs.Parts.{parts}
use Rattle.graph.specs.declared.refusal.Refusal.{Refusal}
use Rattle.graph.specs.Refusals.{number}
use Rattle.grammar.specs.Lines.{field, Said, size, clash, remark, ended, wrong, both, says}
use Rattle.grammar.specs.Sheet.{Outcome, fault, Verdict, refused}
use Rattle.lines.specs.Rest.{fields_of, count_of}
use Rattle.lines.specs.declared.Fault.{Fault}
use Rattle.lines.specs.declared.Place.{Place}
use Rattle.lines.specs.declared.Figure.{Figure}
use Rattle.lines.specs.declared.Two.{Two}
use Rattle.lines.specs.declared.Line.{Line}
use Rattle.lines.specs.declared.Line.TheVariants.{Size, Clash, Remark, End}

-- the line and the field of a place, 0 where there is none, and the bytes that are shown there
abbrev pub line_of : Option Place → ℕ
line_of None = 0
line_of (Some p) = p.line

abbrev pub field_of : Option Place → ℕ
field_of None = 0
field_of (Some p) = p.field

abbrev pub shown_of : Option Place → List ℕ
shown_of None = []
shown_of (Some p) = p.shown.now

-- there is a place, at this line and field, and these bytes are shown
abbrev pub IsAt : ℕ → ℕ → List ℕ → Option Place → Type 0
IsAt k j bytes None = ⊥
IsAt k j bytes (Some p) = (p.line ≡ k) × (p.field ≡ j) × (p.shown.now ≡ bytes)

-- the fault has this number, line and field, and shows these bytes
pub record IsFault (x k j : ℕ) (bytes : List ℕ) (f : Fault) : Type 0 where
  pub code : number f.refusal ≡ x
  pub line : line_of f.place ≡ k
  pub field : field_of f.place ≡ j
  pub shown : shown_of f.place ≡ bytes

-- the fault is of no line, and has this refusal
pub record Unplaced (x : Refusal) (f : Fault) : Type 0 where
  pub refusal : f.refusal ≡ x
  pub place : f.place ≡ None

-- the figure is the field's numeral, and keeps its bytes
pub record Figured (bytes : List ℕ) (x : Figure) : Type 0 where
  pub value : numeral bytes ≡ Some x.value
  pub shown : x.shown.now ≡ bytes

pub record TwoKept (rest : Option (List ℕ)) (t : Two) : Type 0 where
  pub first : Figured (fields_of rest 0) t.a
  pub second : Figured (fields_of rest 1) t.b
  pub whole : nat_lt 2 (count_of rest) ≡ false

pub record TwoFault (rest : Option (List ℕ)) (k : ℕ) (f : Fault) : Type 0 where
  pub says : (say : ℕ → ℕ → Said) → both say (numeral (fields_of rest 0)) (numeral (fields_of rest 1)) (nat_lt 2 (count_of rest)) ≡ wrong (field_of f.place)
  pub place : 2 ≤ field_of f.place
  pub fault_is : IsFault 9 k (field_of f.place) (fields_of rest (field_of f.place - 2)) f

-- the line keeps what the text says
abbrev pub Kept : Bool → List ℕ → Line → Type 0
Kept first text (Size n m) = (says first (parts 9 text) ≡ size n.value m.value) × (n.shown.now ≡ field (parts 9 text) 1) × (m.shown.now ≡ field (parts 9 text) 2)
Kept first text (Clash a b) = (says first (parts 9 text) ≡ clash a.value b.value) × (a.shown.now ≡ field (parts 9 text) 1) × (b.shown.now ≡ field (parts 9 text) 2)
Kept first text (Remark t) = (says first (parts 9 text) ≡ remark) × (t.now ≡ text)
Kept first text End = says first (parts 9 text) ≡ ended

-- the first field that is wrong, missing or surplus
pub record LineFault (first : Bool) (text : List ℕ) (k : ℕ) (f : Fault) : Type 0 where
  pub says : says first (parts 9 text) ≡ wrong (field_of f.place)
  pub fault_is : IsFault 9 k (field_of f.place) (field (parts 9 text) (field_of f.place - 1)) f

-- what a fault says
abbrev pub told : Fault → Outcome
told f = fault (number f.refusal) (line_of f.place) (field_of f.place) (shown_of f.place)

-- the fault of a clash line that is refused
pub record Refused (v : Verdict) (text : List ℕ) (k : ℕ) (f : Fault) : Type 0 where
  pub verdict : v ≡ refused (number f.refusal) (field_of f.place)
  pub line : line_of f.place ≡ k
  pub shown : shown_of f.place ≡ field (parts 9 text) (field_of f.place - 1)
