-- A sheet as a list form, and a list form as a sheet.
use Rattle.std.specs.Prelude.{◌≡◌, ℕ, true, List}
use Rattle.graph.specs.declared.edge.Edge.{Edge}
use Rattle.rows.specs.Rows.{Lists}
use Rattle.fields.specs.Parts.{parts}
use Rattle.grammar.specs.Sheet.{plain, written, Reads}

-- the sheet is well formed, and the lists are the list form of what it states
pub record Loaded (s os ns : List ℕ) : Type 0 where
  pub size : ℕ
  pub edges : List Edge
  pub reads : Reads s size edges
  pub lists : Lists size edges os ns

-- both sheets state the same, the second has no remark, and where the first has none either they are the same bytes
pub record Rewritten (s t : List ℕ) : Type 0 where
  pub size : ℕ
  pub edges : List Edge
  pub first : Reads s size edges
  pub again : Reads t size edges
  pub clean : t ≡ written size edges
  pub bytes : plain (parts 10 s) ≡ true → t ≡ s
