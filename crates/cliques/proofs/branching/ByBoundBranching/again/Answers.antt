use Rattle.searching.proofs.Cuts.{nothing_within}
use Rattle.cliques.proofs.branching.ByBoundBranching.again.Goals as goal

pub returns-else-may_pass-clause-within : goal.returns-else-may_pass-clause-within
returns-else-may_pass-clause-within g c = nothing_within c.args.m
