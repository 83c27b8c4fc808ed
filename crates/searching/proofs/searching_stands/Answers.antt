use Rattle.searching.proofs.Search.{few_inside}
use Rattle.searching.proofs.searching_stands.Goals as goal

pub returns : goal.returns
returns c = few_inside
