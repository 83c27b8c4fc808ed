use Rattle.std.proofs.Common.{◌-◌, ◌≤◌, length}
use Rattle.climbing.specs.Climbs.{BlockIn, EachOnce, FewLater, last}
use Rattle.climb.proofs.steps.climb_before.Given as goal

abbrev pub invariant-loop-at : goal.invariant-loop-at
invariant-loop-at g l =
    (l.len ≤ 64) × FewLater (g.T.Terrain.graph l.terrain) l.order l.at
    × (EachOnce (g.T.Terrain.graph l.terrain) l.order → BlockIn (g.T.Terrain.graph l.terrain) (last l.order (length l.order - l.at)) l.block l.len)
