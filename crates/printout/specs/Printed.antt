-- What the program prints for what it is given.
use Rattle.std.specs.Prelude.{◌≡◌, ℕ, zero, suc, ◌<◌, ◌≤◌, cond, ◌⊎◌, List, [], ◌∷◌, ◌++◌, length, Option, Result, Ok, Err, ◌==◌, nat_lt, slice_index}
use Rattle.std.specs.Io.KnownBytes.{Appends}
use Rattle.std.specs.declared.alloc.AllocError.{AllocError}
use Rattle.fields.specs.Rows.{numbers_line}
use Rattle.graph.specs.declared.edge.Edge.{Edge}
use Rattle.graph.specs.declared.refusal.Refusal.{Refusal}
use Rattle.graph.specs.Refusals.{number}
use Rattle.grammar.specs.Sheet.{Outcome, states, fault, outcome, written}
use Rattle.sheets.specs.Loaded.{Loaded, Rewritten}
use Rattle.sources.specs.declared.list_form.ListForm.{ListForm}

-- the letter x and the number, and for 9 the line and the field
abbrev pub refusal : ℕ → ℕ → ℕ → List ℕ
refusal x k j = numbers_line 120 (x ∷ cond (x == 9) (k ∷ j ∷ []) [])

-- the clean sheet of what is stated, or the refusal
abbrev pub told : Outcome → List ℕ
told (states n es) = written n es
told (fault x k j shown) = refusal x k j

-- an input of more than 65,536 bytes does not go into the buffer
abbrev pub printed : List ℕ → List ℕ
printed s = cond (nat_lt 65536 (length s)) (refusal 7 0 0) (told (outcome s))

-- what is printed, also where memory is wanting
abbrev pub Prints : List ℕ → List ℕ → Type 0
Prints s out = (out ≡ printed s) ⊎ (out ≡ refusal 99 0 0)

-- a good sheet that is not too long is read and written back, also where memory is wanting
abbrev pub Rewrites : List ℕ → List ℕ → Type 0
Rewrites s out = length s ≤ 65536 → (n : ℕ) (es : List Edge) → outcome s ≡ states n es → Rewritten s out ⊎ (out ≡ refusal 99 0 0)

-- the letter d with a cartridge and its drive, for each number below n
unfoldable pub drive_lines : List ℕ → ℕ → List ℕ
drive_lines col zero = []
drive_lines col (suc c) = drive_lines col c ++ numbers_line 100 (c ∷ slice_index col c ∷ [])

-- what is returned for the stock of a sheet: a text, or how the stock is refused, which is a line
pub record OfStock {V : Type 0} (text : V → List ℕ) (returns : ListForm → Result V Refusal → Type 0) (s out : List ℕ) : Type 0 where
  pub form : ListForm
  pub stock : Loaded s form.offsets.items form.neighbours.items
  pub answer : ((v : V) × returns form (Ok v) × (out ≡ text v)) ⊎ ((x : Refusal) × returns form (Err x) × (out ≡ refusal (number x) 0 0))

-- what is printed: too long, want of memory, a faulty sheet, or what is returned for its stock
abbrev pub Answers : {V : Type 0} → (V → List ℕ) → (ListForm → Result V Refusal → Type 0) → List ℕ → List ℕ → Type 0
Answers text returns s out =
    ((out ≡ refusal 7 0 0) × (65536 < length s))
    ⊎ (((out ≡ refusal 99 0 0) × (length s ≤ 65536))
    ⊎ ((length s ≤ 65536)
    × (((x : ℕ) × (k : ℕ) × (j : ℕ) × (shown : List ℕ) × (outcome s ≡ fault x k j shown) × (out ≡ refusal x k j)) ⊎ OfStock text returns s out)))

-- to what stood there, the text that is returned is appended, or the letter x and 99 where memory is wanting
abbrev pub Replies : {V : Type 0} → (V → List ℕ) → (Result V AllocError → Type 0) → Option (List ℕ) → Option (List ℕ) → Type 0
Replies {V} text returns before after =
    ((v : V) × returns (Ok v) × Appends before after (text v)) ⊎ ((e : AllocError) × returns (Err e) × Appends before after (120 ∷ 9 ∷ 57 ∷ 57 ∷ 10 ∷ []))
