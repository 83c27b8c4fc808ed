-- What planning a graph leaves in the two buffers, and when it is refused.
use Rattle.std.specs.Prelude.{◌≡◌, ℕ, ◌+◌, ◌<◌, ◌≤◌, true, ◌⊎◌, List, take, drop, slice_index}
use Rattle.graph.specs.declared.refusal.Refusal.{Refusal}
use Rattle.graph.specs.declared.refusal.Refusal.TheVariants.{TooDense, ShortBuffer}
use Rattle.graph.specs.Graph.{Graph, Lawful, held, vertices}
use Rattle.graph.specs.Colourings.{Proper, Coloured, used}
use Rattle.degeneracy.specs.Order.{IsOrder}
use Rattle.degeneracy.specs.Greedy.{IsPlan}
use Rattle.order.specs.Order.{OrderedIn, Dense}

-- the order, and the colours of its plan: one for each number below the size, 0 where it is not held
pub record PlannedIn (g : Graph) (before after paint painted : List ℕ) (len most drives : ℕ) : Type 0 where
  pub ordered : OrderedIn g before after len most
  pub plan : IsPlan g (take len after) (λ c. slice_index painted c)
  pub proper : Proper g (λ c. slice_index painted c)
  pub few : (c : ℕ) → c < g.size → slice_index painted c ≤ most + 1
  pub low : (c : ℕ) → held g c ≡ true → 1 ≤ slice_index painted c
  pub drives_are : used g (λ c. slice_index painted c) ≡ drives
  pub coloured : Coloured g drives (λ c. slice_index painted c)
  pub rest : drop g.size painted ≡ drop g.size paint

-- a buffer is too short, or else the graph is too dense
abbrev pub PlanRefused : Graph → ℕ → ℕ → Refusal → Type 0
PlanRefused g room paint x =
    ((x ≡ ShortBuffer) × ((paint < g.size) ⊎ (room < vertices g))) ⊎ ((x ≡ TooDense) × (g.size ≤ paint) × (vertices g ≤ room) × Dense g)

-- an order has one plan
abbrev pub OnePlan : Type 0
OnePlan =
    (g : Graph) (p : List ℕ) (col new : ℕ → ℕ) → Lawful g → IsOrder g p → IsPlan g p col → IsPlan g p new → (c : ℕ) → c < g.size → col c ≡ new c
