use Rattle.colourings.proofs.Used.{used_exactly}
use Rattle.colourings.proofs.stands.Goals as goal

pub returns : goal.returns
returns c = used_exactly
