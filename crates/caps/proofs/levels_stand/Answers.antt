use Rattle.graph.specs.Graph.{held, inside}
use Rattle.supports.proofs.Peels.{shrinks}
use Rattle.cohesion.proofs.Bridge.{communities_shrink, number_one}
use Rattle.caps.proofs.levels_stand.Goals as goal

pub returns : goal.returns
returns c =
    record { cores = λ g t r s u. shrinks (inside g) (held g) s u t r; communities = communities_shrink; one = number_one }
