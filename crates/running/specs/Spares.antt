-- A planner over nothing, by where it stands.
use Rattle.std.specs.Prelude.{◌≡◌}
use Rattle.graph.specs.declared.Source.{Ghosts}
use Rattle.bounds.specs.declared.by_size.SizeBound.{SizeBound}
use Rattle.calls.specs.declared.standing.Standing.{Standing}
use Rattle.calls.specs.Points.{History, point_at}
use Rattle.planner.specs.declared.planner.Planner.{Planner}
use Rattle.planner.specs.Explains.{Explains}
use Rattle.running.specs.declared.nothing.Nothing.{Nothing}
use Rattle.running.specs.Nothing.{nothing}

-- some history has brought it there
pub record SpareAt {ns : Ghosts Nothing} (s : Standing) (p : Planner Nothing SizeBound ns) : Type 0 where
  pub history : History
  pub explains : Explains (λ _. nothing) nothing history p
  pub stands : (point_at nothing history).standing ≡ s
