-- What peeling a graph's vertices leaves in the lent buffers.
use Rattle.std.specs.Prelude.{◌≡◌, ℕ, ◌<◌, ◌≤◌, cond, ◌⊎◌, List, take, drop, slice_index}
use Rattle.graph.specs.declared.refusal.Refusal.{Refusal}
use Rattle.graph.specs.declared.refusal.Refusal.TheVariants.{ShortBuffer}
use Rattle.graph.specs.Graph.{Graph, held, inside}
use Rattle.graph.specs.Degeneracy.{CoreOf}
use Rattle.supports.specs.Peel.{Peels, without, alive}

-- the first len places of `taken` are the vertices taken out, and a byte is 1 where a vertex stays
pub record CoreIn (g : Graph) (t : ℕ) (living living' taken taken' : List ℕ) (len : ℕ) : Type 0 where
  pub fits : len ≤ g.size
  pub peels : Peels (inside g) t (held g) (take len taken')
  pub bytes : (c : ℕ) → c < g.size → slice_index living' c ≡ cond (without (held g) (take len taken') c) 1 0
  pub core : CoreOf g t (alive g.size living')
  pub beyond : (c : ℕ) → g.size ≤ c → slice_index living' c ≡ slice_index living c
  pub rest : drop len taken' ≡ drop len taken

-- one of the buffers is shorter than the numbers
abbrev pub CoreRefused : Graph → ℕ → ℕ → Refusal → Type 0
CoreRefused g living taken x = (x ≡ ShortBuffer) × ((living < g.size) ⊎ (taken < g.size))
