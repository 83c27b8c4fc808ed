-- A planner that stands where a history has brought it, and what a call does to it.
use Rattle.std.specs.Prelude.{◌≡◌, ℕ, ◌∷◌}
use Rattle.graph.specs.declared.Source.{Ghosts}
use Rattle.graph.specs.Graph.{Graph}
use Rattle.graph.specs.Hiding.{marked}
use Rattle.calls.specs.declared.call.Call.{Call}
use Rattle.calls.specs.declared.call.Reply.{Reply}
use Rattle.calls.specs.Points.{History, event, graph_at, point_at}
use Rattle.calls.specs.Fair.{Fair, FairHistory}
use Rattle.progress.specs.Holds.{Holds}
use Rattle.planner.specs.declared.planner.Planner.{Planner}

-- the calls of the history were made of this planner over a source of this graph, and answered so
pub record Explains {S B : Type 0} {gs : Ghosts S} (graph : S → Graph) (g : Graph) (h : History) (p : Planner S B gs) : Type 0 where
  pub below : graph p.layer.below ≡ g
  pub hidden : (c : ℕ) → marked p.layer.hidden c ≡ (point_at g h).hidden c
  pub fair : FairHistory g h
  pub holds : Holds (graph_at g (point_at g h)) (point_at g h).standing (point_at g h).climbs (point_at g h).noes p.progress

-- whatever history has brought the planner here, the reply is the one due, and the history goes on with this call
abbrev pub Serves : {S B : Type 0} {gs : Ghosts S} → (S → Graph) → Planner S B gs → Call → Reply → Planner S B gs → Type 0
Serves graph p c r q =
    (g : Graph) (h : History) → Explains graph g h p → Fair g (point_at g h) c r × Explains graph g (event c r ∷ h) q
