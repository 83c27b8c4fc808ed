use Rattle.placings.proofs.Swaps.{cut}
use Rattle.placings.proofs.placings_stand.Goals as goal

pub returns : goal.returns
returns c = cut
