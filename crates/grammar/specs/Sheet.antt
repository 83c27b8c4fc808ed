-- What a sheet states, and the fault of one that states nothing.
use Rattle.std.specs.Prelude.{◌≡◌, ℕ, ◌+◌, ◌-◌, ◌<◌, Bool, true, false, cond, ◌&&◌, ◌⊎◌, List, [], ◌∷◌, ◌++◌, length, decimal, Option, ◌==◌, ◌≢◌, nat_le, nat_lt, slice_index}
use Rattle.std.specs.List.{flat_map}
use Rattle.fields.specs.Parts.{Parts, last, more, parts}
use Rattle.graph.specs.declared.edge.Edge.{Edge}
use Rattle.graph.specs.Edges.{edge, latest, above, Good}
use Rattle.grammar.specs.Lines.{field, letter, Said, size, clash, remark, ended, wrong, says}

-- THE FORM

-- a letter and two numbers
abbrev pub row : ℕ → ℕ → ℕ → List ℕ
row c a b = c ∷ 9 ∷ (decimal a ++ 9 ∷ (decimal b ++ 10 ∷ []))

abbrev pub edge_row : Edge → List ℕ
edge_row e = row 112 e.a e.b

-- the size line, the edges, the end
abbrev pub written : ℕ → List Edge → List ℕ
written n es = row 115 n (length es) ++ (flat_map edge_row es ++ (101 ∷ 10 ∷ []))

-- a line between the first and the last: an edge, or a remark with what stands behind its letter
pub data Item : Type 0 where
  pair : Edge → Item
  note : List ℕ → Item

abbrev pub line_of : Item → List ℕ
line_of (pair e) = row 112 e.a e.b
line_of (note t) = 114 ∷ (t ++ 10 ∷ [])

abbrev pub edges_of : List Item → List Edge
edges_of [] = []
edges_of (pair e ∷ xs) = e ∷ edges_of xs
edges_of (note t ∷ xs) = edges_of xs

-- behind its letter a remark has nothing, or a tab and any bytes but a line feed
abbrev pub Sound : List Item → Type 0
Sound [] = Unit {0}
Sound (pair e ∷ xs) = Sound xs
Sound (note t ∷ xs) = ((k : ℕ) → k < length t → slice_index t k ≢ 10) × ((t ≡ []) ⊎ (slice_index t 0 ≡ 9)) × Sound xs

-- the sheet is well formed, and states n and these edges
pub record Reads (s : List ℕ) (n : ℕ) (es : List Edge) : Type 0 where
  pub items : List Item
  pub text : s ≡ row 115 n (length es) ++ (flat_map line_of items ++ (101 ∷ 10 ∷ []))
  pub edges : edges_of items ≡ es
  pub sound : Sound items
  pub good : Good n es

-- THE FIRST FAULT

pub data Outcome : Type 0 where
  states : ℕ → List Edge → Outcome
  fault : ℕ → ℕ → ℕ → List ℕ → Outcome

pub data Verdict : Type 0 where
  fine : Verdict
  refused : ℕ → ℕ → Verdict

-- a further edge: more than the size line says, outside, not smaller first or not above the previous
unfoldable pub judge : ℕ → ℕ → ℕ → Option Edge → ℕ → ℕ → Verdict
judge n m done previous a b =
    cond (nat_le m done) (refused 12 1)
    (cond (nat_le n a) (refused 1 2) (cond (nat_le n b) (refused 1 3) (cond (nat_lt a b && above previous (edge a b)) fine (refused 10 1))))

abbrev pub judged : ℕ → Parts → Verdict → Outcome → Outcome
judged k p fine then = then
judged k p (refused x j) then = fault x k j (field p (j - 1))

-- nothing follows the end
abbrev pub closed : ℕ → List Edge → ℕ → Parts → Outcome
closed n es k (last []) = states n es
closed n es k (last (c ∷ f)) = fault 9 k 1 (field (parts 9 (c ∷ f)) 0)
closed n es k (more line rest) = fault 9 k 1 (field (parts 9 line) 0)

-- line k has these fields and says this, behind the edges es
abbrev pub turn : ℕ → ℕ → List Edge → ℕ → Parts → Said → (List Edge → Outcome) → Parts → Outcome
turn n m es k p (size a b) go rest = fault 9 k 1 (field p 0)
turn n m es k p (clash a b) go rest = judged k p (judge n m (length es) (latest es) a b) (go (es ++ edge a b ∷ []))
turn n m es k p remark go rest = go es
turn n m es k p ended go rest = cond (nat_lt (length es) m) (fault 12 k 1 (field p 0)) (closed n es (k + 1) rest)
turn n m es k p (wrong j) go rest = fault 9 k j (field p (j - 1))

-- the lines from line k on, behind the edges es; what stands behind the last line feed is no line
unfoldable pub walk : ℕ → ℕ → List Edge → ℕ → Parts → Outcome
walk n m es k (last f) = fault 9 k 1 []
walk n m es k (more line rest) =
    turn n m es k (parts 9 line) (says false (parts 9 line)) (λ done. walk n m done (k + 1) rest) rest

abbrev pub opened : Parts → Said → Parts → Outcome
opened p (size n m) rest = cond (nat_le n 1024 && nat_le m 16384) (walk n m [] 2 rest) (fault 11 1 1 (field p 0))
opened p (clash a b) rest = fault 9 1 1 (field p 0)
opened p remark rest = fault 9 1 1 (field p 0)
opened p ended rest = fault 9 1 1 (field p 0)
opened p (wrong j) rest = fault 9 1 j (field p (j - 1))

abbrev pub opening : Parts → Outcome
opening (last f) = fault 9 1 1 []
opening (more line rest) = opened (parts 9 line) (says true (parts 9 line)) rest

-- what the sheet states, or its first fault: number, line, field, and the field's bytes
unfoldable pub outcome : List ℕ → Outcome
outcome s = opening (parts 10 s)

-- no line is a remark
unfoldable pub plain : Parts → Bool
plain (last f) = true
plain (more line rest) = cond (letter (field (parts 9 line) 0) == 114) false (plain rest)

-- the same where the stock goes into buffers that may be too short for it: the lines are tested first, and then the room
abbrev pub limit : (ℕ → List Edge → Bool) → Outcome → Outcome
limit short (states n es) = cond (short n es) (fault 7 0 0 []) (states n es)
limit short (fault x k j shown) = fault x k j shown
