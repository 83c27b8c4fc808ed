use Rattle.std.proofs.Common.{◌≡◌, ℕ, false, length, get_or, take}
use Rattle.finite.specs.Finite.{has}
use Rattle.peels.specs.Peels.{Taken}
use Rattle.peels.proofs.Backs.{Back}
use Rattle.putback.proofs.paint_back.Given as goal

abbrev pub invariant-loop-x : goal.invariant-loop-x
invariant-loop-x g l =
    (l.x-iterator.iter.rest.now ≡ take (length l.x-iterator.iter.rest.now) l.list)
    × (Taken (g.S.Source.graph l.source) l.list → Back (g.S.Source.graph l.source) l.list (length l.x-iterator.iter.rest.now) l.initial.colours l.colours)
    × ((c : ℕ) → has l.list c ≡ false → get_or l.colours c 0 ≡ get_or l.initial.colours c 0)
