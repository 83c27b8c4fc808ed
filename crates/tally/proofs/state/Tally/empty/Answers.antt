use Rattle.std.proofs.Common.{refl}
use Rattle.tally.proofs.Counts.{counted_none}
use Rattle.tally.proofs.state.Tally.empty.Goals as goal

pub returns : goal.returns
returns c = counted_none 0 _ refl refl refl refl
