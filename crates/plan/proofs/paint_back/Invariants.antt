use Rattle.std.proofs.Common.{◌≡◌, length, take, drop}
use Rattle.degeneracy.proofs.Plans.{Painted}
use Rattle.plan.proofs.paint_back.Given as goal

abbrev pub invariant-loop-x : goal.invariant-loop-x
invariant-loop-x g l =
    (l.x-iterator.iter.rest.now ≡ take (length l.x-iterator.iter.rest.now) l.order)
    × Painted (g.S.Source.graph l.source) l.order (length l.x-iterator.iter.rest.now) l.colours
    × (drop (g.S.Source.graph l.source).size l.colours ≡ drop (g.S.Source.graph l.source).size l.fn.colours)
