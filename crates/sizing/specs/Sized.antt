-- What the program prints of a stock.
use Rattle.std.specs.Prelude.{◌≡◌, ℕ, ◌<◌, ◌≤◌, Bool, ◌⊎◌, List, [], ◌∷◌, ◌++◌, length, slice_index}
use Rattle.fields.specs.Rows.{numbers_line}
use Rattle.finite.specs.Finite.{members}
use Rattle.graph.specs.Graph.{Graph, held, vertices}
use Rattle.graph.specs.Degeneracy.{IsDegeneracy}
use Rattle.graph.specs.Colourings.{Proper, Coloured, used}
use Rattle.rows.specs.Rows.{listed}
use Rattle.climbing.specs.Climbs.{LargestAmong}
use Rattle.degeneracy.specs.Order.{IsOrder}
use Rattle.degeneracy.specs.Greedy.{IsPlan}
use Rattle.order.specs.Order.{Dense}
use Rattle.grammar.specs.Sheet.{fault, outcome}
use Rattle.sheets.specs.Loaded.{Loaded}
use Rattle.printout.specs.Printed.{drive_lines, refusal}

-- the letter n with how many are held, the degeneracy, the size of the block and the drives; the letter k with the
-- block; then the drive of each
abbrev pub printout : ℕ → ℕ → ℕ → ℕ → List ℕ → List ℕ → List ℕ
printout n held d k block col =
    (numbers_line 110 (held ∷ d ∷ length block ∷ k ∷ []) ++ numbers_line 107 block) ++ drive_lines col n

-- the order, degeneracy and first plan of a graph, whose degeneracy is at most 63
pub record FirstPlan (g : Graph) (d k : ℕ) (col : ℕ → ℕ) : Type 0 where
  pub order : List ℕ
  pub is_order : IsOrder g order
  pub degeneracy : IsDegeneracy g d
  pub sparse : d ≤ 63
  pub plan : IsPlan g order col
  pub proper : Proper g col
  pub within : Coloured g k col
  pub drives : used g col ≡ k

-- the list has, rising, the members of a clique, and no clique has more
pub record LargestClique (g : Graph) (block : List ℕ) : Type 0 where
  pub set : ℕ → Bool
  pub largest : LargestAmong g (held g) set (length block)
  pub rising : block ≡ members set g.size

-- the first plan and a largest clique of a list form, as they are printed
pub record FormSized (os ns out : List ℕ) : Type 0 where
  pub degeneracy : ℕ
  pub drives : ℕ
  pub plan : List ℕ
  pub block : List ℕ
  pub first : FirstPlan (listed os ns) degeneracy drives (λ c. slice_index plan c)
  pub largest : LargestClique (listed os ns) block
  pub text : out ≡ printout (listed os ns).size (vertices (listed os ns)) degeneracy drives block plan

-- the stock of the sheet, as it is printed
pub record Sized (s out : List ℕ) : Type 0 where
  pub offsets : List ℕ
  pub neighbours : List ℕ
  pub stock : Loaded s offsets neighbours
  pub form : FormSized offsets neighbours out

-- the stock of the sheet is too dense
pub record IsTooDense (s : List ℕ) : Type 0 where
  pub offsets : List ℕ
  pub neighbours : List ℕ
  pub stock : Loaded s offsets neighbours
  pub dense : Dense (listed offsets neighbours)

-- what is printed: too long, a faulty sheet, a stock that is too dense, its first plan, or want of memory
abbrev pub Prints : List ℕ → List ℕ → Type 0
Prints s out =
    ((out ≡ refusal 7 0 0) × (65536 < length s))
    ⊎ (((out ≡ refusal 99 0 0) × (length s ≤ 65536))
    ⊎ ((length s ≤ 65536)
    × (((x : ℕ) × (k : ℕ) × (j : ℕ) × (shown : List ℕ) × (outcome s ≡ fault x k j shown) × (out ≡ refusal x k j))
    ⊎ (((out ≡ refusal 4 0 0) × IsTooDense s) ⊎ Sized s out))))
