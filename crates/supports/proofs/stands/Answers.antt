use Rattle.supports.proofs.Peels.{largest_one, shrinks}
use Rattle.supports.proofs.stands.Goals as goal

pub returns : goal.returns
returns c = record { one = λ sup all s u t. largest_one sup t all s u; shrinks = shrinks }
