use Rattle.grids.proofs.Parts.{parts_largest}
use Rattle.pictures.specs.Pictures.{places}
use Rattle.two_part.specs.TwoPart.{lower_part, upper_part, clique_degree}
use Rattle.two_part.proofs.two_part_stands.Goals as goal

pub returns : goal.returns
returns c answer p m =
    parts_largest p.rows (places p) (lower_part p m) (upper_part p m) (clique_degree answer p (upper_part p m)) (clique_degree answer p (lower_part p m)) p.small
