-- What a planner has found, over the graph that it holds.
use Rattle.std.specs.Prelude.{◌≡◌, ℕ, ◌+◌, ◌<◌, ◌≤◌, true, false, List, MatchBool, slice_index}
use Rattle.graph.specs.Graph.{Graph, vertices}
use Rattle.graph.specs.Colourings.{Colourable, used}
use Rattle.graph.specs.Degeneracy.{CoreOf}
use Rattle.degeneracy.specs.Order.{IsOrder, IsPeak, survivors}
use Rattle.climbing.specs.Climbs.{BlockIn, last}
use Rattle.placings.specs.Colours.{Colours, at}
use Rattle.kernels.specs.Kernels.{Draws, places, joined}
use Rattle.peels.specs.Peels.{CoreLeft, Lists}
use Rattle.arrayvec.specs.ArrayVec.{array_vec_len}
use Rattle.calls.specs.declared.standing.Standing.{Standing}
use Rattle.calls.specs.declared.call.Report.{Report}
use Rattle.calls.specs.Table.{loose, full, out, among}
use Rattle.calls.specs.Points.{Point}
use Rattle.calls.specs.Parts.{PlanAt, LastPlan}
use Rattle.calls.specs.Fair.{Reported}
use Rattle.progress.specs.declared.state.Progress.{Progress}

-- the drives of a table
abbrev pub paint : List ℕ → ℕ → ℕ
paint drives c = slice_index drives c

-- the numbers where nothing is found
pub record Unfound (climbs noes : ℕ) (p : Progress) : Type 0 where
  pub no_climbs : climbs ≡ 0
  pub no_noes : noes ≡ 0
  pub degeneracy : p.degeneracy ≡ 0
  pub block : array_vec_len p.block ≡ 0
  pub floor : p.floor ≡ 0
  pub ceiling : p.ceiling ≡ p.held

-- the order, the block after so many climbs, the floor after so many noes, and the plan
pub record Found (g : Graph) (s : Standing) (climbs noes : ℕ) (p : Progress) : Type 0 where
  pub fits : array_vec_len p.order ≡ p.held
  pub order : IsOrder g p.order.items
  pub peak : IsPeak g p.order.items p.degeneracy
  pub sparse : p.degeneracy ≤ 63
  pub block : BlockIn g (last p.order.items climbs) p.block.items (array_vec_len p.block)
  pub floor : p.floor ≡ array_vec_len p.block + noes
  pub below : (k : ℕ) → k < p.floor → Colourable g k → ⊥
  pub plan : PlanAt g s climbs p.floor (paint p.drives)
  pub ceiling : p.ceiling ≡ used g (paint p.drives)
  pub climbing : among false true false false false false s ≡ true → (climbs < vertices g) × (noes ≡ 0)
  pub climbed : full s ≡ true → climbs ≡ vertices g

-- the kernel, and those that were taken out
pub record Out (g : Graph) (p : Progress) : Type 0 where
  pub core : CoreOf g (array_vec_len p.block) (survivors g p.taken.items)
  pub left : CoreLeft g (array_vec_len p.block) p.taken.items
  pub lists : Lists (survivors g p.taken.items) p.places.items
  pub draws : Draws g p.places.items p.kernel

-- the planner stands so over the graph, so many climbs after the order, and so many noes
pub record Holds (g : Graph) (s : Standing) (climbs noes : ℕ) (p : Progress) : Type 0 where
  pub standing : p.standing ≡ s
  pub held : p.held ≡ vertices g
  pub climbed : p.climbed ≡ climbs
  pub numbers : MatchBool (loose s) (Unfound climbs noes p) (Found g s climbs noes p)
  pub kernel : out s ≡ true → Out g p
  pub won : among false false false false true false s ≡ true → Colours (places p.kernel) (joined p.kernel) p.floor (at p.found)

-- the numbers are those of a report, at every point where the planner stands so
abbrev pub ToldRight : Progress → Report → Type 0
ToldRight p r =
    (g : Graph) (x : Point) → Holds g x.standing x.climbs x.noes p → Reported g x r

-- the plan after a yes at k: it uses k drives
pub record NewPlan (g : Graph) (climbs k : ℕ) (drives : List ℕ) : Type 0 where
  pub plan : LastPlan g climbs k (paint drives)
  pub uses : used g (paint drives) ≡ k
