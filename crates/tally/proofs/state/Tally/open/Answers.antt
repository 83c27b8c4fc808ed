use Rattle.std.proofs.Common.{refl, arith}
use Rattle.tally.proofs.Counts.{counted_none}
use Rattle.tally.proofs.state.Tally.open.Goals as goal

pub returns : goal.returns
returns c = (omega arith, counted_none c.args.n _ refl refl refl refl)
