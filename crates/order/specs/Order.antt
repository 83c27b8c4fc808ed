-- What ordering a graph leaves in a buffer, and when it is refused.
use Rattle.std.specs.Prelude.{◌≡◌, ℕ, ◌<◌, ◌≤◌, ◌⊎◌, List, length, take, drop}
use Rattle.graph.specs.declared.refusal.Refusal.{Refusal}
use Rattle.graph.specs.declared.refusal.Refusal.TheVariants.{TooDense, ShortBuffer}
use Rattle.graph.specs.Graph.{Graph, vertices}
use Rattle.graph.specs.Degeneracy.{IsDegeneracy}
use Rattle.degeneracy.specs.Order.{IsOrder, IsPeak}

-- the order in the first len places, with its largest count met, and the rest as it was
pub record OrderedIn (g : Graph) (before after : List ℕ) (len most : ℕ) : Type 0 where
  pub len_is : len ≡ vertices g
  pub fits : len ≤ length after
  pub order : IsOrder g (take len after)
  pub peak : IsPeak g (take len after) most
  pub degeneracy : IsDegeneracy g most
  pub rest : drop len after ≡ drop len before

-- the degeneracy is above 63
pub record Dense (g : Graph) : Type 0 where
  pub number : ℕ
  pub degeneracy : IsDegeneracy g number
  pub above : 63 < number

-- a buffer of so many places is too short, or else the graph is too dense
abbrev pub OrderRefused : Graph → ℕ → Refusal → Type 0
OrderRefused g room x =
    ((x ≡ ShortBuffer) × (room < vertices g)) ⊎ ((x ≡ TooDense) × (vertices g ≤ room) × Dense g)
