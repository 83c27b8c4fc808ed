use Rattle.std.proofs.Common.{◌≡◌, length, drop}
use Rattle.peels.proofs.Marks.{Spread}
use Rattle.putback.proofs.spread.Given as goal

abbrev pub invariant-loop-x : goal.invariant-loop-x
invariant-loop-x l =
    (l.x-iterator.a.rest.now ≡ drop (length l.yielded) l.list)
    × (l.x-iterator.b.rest.now ≡ drop (length l.yielded) l.drives)
    × Spread l.list l.drives (length l.yielded) l.initial.colours l.colours
