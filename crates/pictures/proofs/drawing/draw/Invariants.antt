use Rattle.std.proofs.Common.{◌≡◌, length}
use Rattle.grids.specs.Draws.{Drawn}
use Rattle.pictures.specs.Pictures.{joined, paired, places}
use Rattle.pictures.proofs.drawing.draw.Given as goal

abbrev pub invariant-loop-i : goal.invariant-loop-i
invariant-loop-i g l = (places l.picture ≡ length l.chosen) × Drawn (paired (g.S.Source.graph l.source) l.chosen) (joined l.picture) l.i 0
