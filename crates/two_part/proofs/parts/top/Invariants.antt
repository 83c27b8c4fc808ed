use Rattle.std.proofs.Common.{◌≡◌, max}
use Rattle.grids.specs.Largest.{top}
use Rattle.two_part.specs.TwoPart.{clique_degree}
use Rattle.two_part.proofs.parts.top.Given as goal

abbrev pub invariant-loop-i : goal.invariant-loop-i
invariant-loop-i g l =
    max l.best (top (clique_degree (g.B.Bound.answer l.bound) l.p l.other) l.i-iterator.rest) ≡ top (clique_degree (g.B.Bound.answer l.bound) l.p l.other) l.class
