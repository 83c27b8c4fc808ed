use Rattle.grids.specs.Classes.{classes}
use Rattle.grids.proofs.Walks.{Stands}
use Rattle.bounds.proofs.by_class.classes.Given as goal

abbrev pub invariant-loop-i : goal.invariant-loop-i
invariant-loop-i l =
    Stands l.p.rows l.p.count (classes l.p.rows l.mask l.p.count) l.made.items l.i-iterator.rest
