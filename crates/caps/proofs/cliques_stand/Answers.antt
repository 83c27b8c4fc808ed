use Rattle.caps.proofs.Cliques.{cap_bounds, clique_community, one_cap}
use Rattle.caps.proofs.cliques_stand.Goals as goal

pub returns : goal.returns
returns c = record { community = clique_community; bound = cap_bounds; one = one_cap }
