use Rattle.std.proofs.Common.{◌≡◌, ◌-◌, ◌≤◌, length, take, drop}
use Rattle.graph.specs.Graph.{vertices}
use Rattle.degeneracy.proofs.Removal.{State}
use Rattle.order.proofs.remove_all.Given as goal

abbrev pub invariant-loop-x : goal.invariant-loop-x
invariant-loop-x g l =
    (length l.alive ≡ 1024) × (length l.left ≡ 1024) × (l.len ≤ length l.order)
    × State (g.S.Source.graph l.source) (take l.len l.order) l.alive l.left l.most
    × (drop (vertices (g.S.Source.graph l.source)) l.order ≡ drop (vertices (g.S.Source.graph l.source)) l.initial.order)

abbrev pub decreases-loop-x : goal.decreases-loop-x
decreases-loop-x g l = length l.initial.order - l.len
