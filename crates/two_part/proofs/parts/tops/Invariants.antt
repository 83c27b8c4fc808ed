use Rattle.std.proofs.Common.{◌≡◌, map, take}
use Rattle.grids.specs.Largest.{top}
use Rattle.two_part.specs.TwoPart.{clique_degree}
use Rattle.two_part.proofs.parts.tops.Given as goal

abbrev pub invariant-loop-class : goal.invariant-loop-class
invariant-loop-class g l =
    l.tops.items ≡ map (top (clique_degree (g.B.Bound.answer l.bound) l.p l.other)) (take l.class-index l.class-items)
