-- What is printed of the trial of a stock.
use Rattle.std.specs.Prelude.{◌≡◌, ℕ, zero, suc, ◌+◌, ◌-◌, ◌<◌, ◌≤◌, ◌⊎◌, List, [], ◌∷◌, ◌++◌, length}
use Rattle.fields.specs.Rows.{numbers_line}
use Rattle.graph.specs.Graph.{Graph}
use Rattle.rows.specs.Rows.{listed}
use Rattle.order.specs.Order.{Dense}
use Rattle.putback.specs.Backs.{paint}
use Rattle.grammar.specs.Sheet.{fault, outcome}
use Rattle.sheets.specs.Loaded.{Loaded}
use Rattle.printout.specs.Printed.{drive_lines, refusal}
use Rattle.trying.specs.Trying.{TriedOut, IsTooWide}

-- the letter t, a number of drives and 0, so many times from the first on
unfoldable pub no_lines : ℕ → ℕ → List ℕ
no_lines first zero = []
no_lines first (suc i) = no_lines first i ++ numbers_line 116 ((first + i) ∷ 0 ∷ [])

-- the noes, then the yes
abbrev pub try_lines : ℕ → ℕ → List ℕ
try_lines first k = no_lines first (k - first) ++ numbers_line 116 (k ∷ 1 ∷ [])

-- the tries of a graph from the size of a largest clique on, and the colouring that was found
pub record Shown (g : Graph) (out : List ℕ) : Type 0 where
  pub first : ℕ
  pub drives : ℕ
  pub plan : List ℕ
  pub tried : TriedOut g first drives (paint plan)
  pub text : out ≡ try_lines first drives ++ drive_lines plan g.size

-- the graph is too dense, its kernel too wide, or its trial is shown
abbrev pub Told : Graph → List ℕ → Type 0
Told g out =
    ((out ≡ refusal 4 0 0) × Dense g) ⊎ (((out ≡ refusal 5 0 0) × IsTooWide g) ⊎ Shown g out)

-- what is told of the stock of a sheet
pub record OfStock (s out : List ℕ) : Type 0 where
  pub offsets : List ℕ
  pub neighbours : List ℕ
  pub stock : Loaded s offsets neighbours
  pub told : Told (listed offsets neighbours) out

-- what is printed: too long, want of memory, a faulty sheet, or what is told of its stock
abbrev pub Prints : List ℕ → List ℕ → Type 0
Prints s out =
    ((out ≡ refusal 7 0 0) × (65536 < length s))
    ⊎ (((out ≡ refusal 99 0 0) × (length s ≤ 65536))
    ⊎ ((length s ≤ 65536)
    × (((x : ℕ) × (k : ℕ) × (j : ℕ) × (shown : List ℕ) × (outcome s ≡ fault x k j shown) × (out ≡ refusal x k j)) ⊎ OfStock s out)))
