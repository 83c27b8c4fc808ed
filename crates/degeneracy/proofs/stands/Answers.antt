use Rattle.degeneracy.proofs.Removal.{some_order}
use Rattle.degeneracy.proofs.stands.Goals as goal

pub returns : goal.returns
returns c = some_order
