-- A string of calls that a planner has answered.
use Rattle.std.specs.Prelude.{◌≡◌, cond, List, ◌++◌}
use Rattle.bounds.specs.declared.by_size.SizeBound.{SizeBound}
use Rattle.graph.specs.declared.Source.{Ghosts}
use Rattle.graph.specs.Graph.{Graph}
use Rattle.calls.specs.declared.standing.Standing.TheVariants.{Climbed, Pulled}
use Rattle.calls.specs.declared.call.Call.{Call}
use Rattle.calls.specs.declared.call.Reply.{Reply}
use Rattle.calls.specs.Table.{out}
use Rattle.calls.specs.Points.{History, point_at}
use Rattle.calls.specs.Fair.{FairRun, after}
use Rattle.planner.specs.declared.planner.Planner.{Planner}
use Rattle.planner.specs.Explains.{Explains}
use Rattle.running.specs.declared.nothing.Nothing.{Nothing}
use Rattle.running.specs.Spares.{SpareAt}

-- of the planner and the spare one the kernel of exactly one is out
pub record Matched {S B : Type 0} {gs : Ghosts S} {ns : Ghosts Nothing} (graph : S → Graph) (p : Planner S B gs) (spare : Planner Nothing SizeBound ns) : Type 0 where
  pub base : Graph
  pub history : History
  pub explains : Explains graph base history p
  pub other : SpareAt (cond (out (point_at base history).standing) Climbed Pulled) spare

-- the calls were made from p to q, and their replies stand in `new` after what stood in `old`
pub record Carried {S B : Type 0} {gs : Ghosts S} (graph : S → Graph) (p : Planner S B gs) (cs : List Call) (old new : List Reply) (q : Planner S B gs) : Type 0 where
  pub fresh : List Reply
  pub joined : new ≡ old ++ fresh
  pub fair : (g : Graph) (h : History) → Explains graph g h p → FairRun g h cs fresh × Explains graph g (after h cs fresh) q
