-- The block, the kernel and the plan at a point.
use Rattle.std.specs.Prelude.{◌≡◌, ℕ, ◌<◌, ◌≤◌, Bool, true, false, List}
use Rattle.graph.specs.Graph.{Graph, held}
use Rattle.graph.specs.Colourings.{Proper, ColouredIn}
use Rattle.graph.specs.Degeneracy.{CoreOf}
use Rattle.degeneracy.specs.Order.{IsOrder, survivors}
use Rattle.degeneracy.specs.Greedy.{IsPlan}
use Rattle.climbing.specs.Climbs.{LargestAmong, last}
use Rattle.peels.specs.Peels.{CoreLeft, IsPutBack}
use Rattle.calls.specs.declared.standing.Standing.{Standing}
use Rattle.calls.specs.declared.standing.Standing.TheVariants.{Loose, Ordered, Climbed, Pulled, Won, Closed}

-- K is a block of b cartridges after so many climbs: a largest clique among so many last ones of the order
pub record Block (g : Graph) (climbs : ℕ) (K : ℕ → Bool) (b : ℕ) : Type 0 where
  pub order : List ℕ
  pub is_order : IsOrder g order
  pub largest : LargestAmong g (last order climbs) K b

-- some block has b cartridges
abbrev pub BlockSize : Graph → ℕ → ℕ → Type 0
BlockSize g climbs b = (K : ℕ → Bool) × Block g climbs K b

-- s is the kernel of a graph whose block has b cartridges
pub record Kernel (g : Graph) (climbs b : ℕ) (s : ℕ → Bool) : Type 0 where
  pub block : BlockSize g climbs b
  pub core : CoreOf g b s

-- every vertex has a drive, counted from 1, and neighbours have different ones
pub record Assignment (g : Graph) (col : ℕ → ℕ) : Type 0 where
  pub low : (c : ℕ) → held g c ≡ true → 1 ≤ col c
  pub proper : Proper g col

-- the first plan: back through the order, the lowest drive free; 0 for what is not held
pub record FirstPlan (g : Graph) (col : ℕ → ℕ) : Type 0 where
  pub order : List ℕ
  pub is_order : IsOrder g order
  pub plan : IsPlan g order col

-- the plan after a yes at k: a kernel coloured in 1 to k, and what was taken out put back, last taken first; 0 for
-- what is not held
pub record LastPlan (g : Graph) (climbs k : ℕ) (col : ℕ → ℕ) : Type 0 where
  pub size : ℕ
  pub block : BlockSize g climbs size
  pub taken : List ℕ
  pub left : CoreLeft g size taken
  pub old : ℕ → ℕ
  pub coloured : ColouredIn g (survivors g taken) k old
  pub back : IsPutBack g taken old col
  pub others : (c : ℕ) → c < g.size → held g c ≡ false → col c ≡ 0

-- the plan where the planner stands so, with floor k
abbrev pub PlanAt : Graph → Standing → ℕ → ℕ → (ℕ → ℕ) → Type 0
PlanAt g Loose climbs k col = ⊥
PlanAt g Ordered climbs k col = FirstPlan g col
PlanAt g Climbed climbs k col = FirstPlan g col
PlanAt g Pulled climbs k col = FirstPlan g col
PlanAt g Won climbs k col = FirstPlan g col
PlanAt g Closed climbs k col = LastPlan g climbs k col
