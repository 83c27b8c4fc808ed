use Rattle.std.proofs.Common.{arith}
use Rattle.searching.proofs.Cuts.{cut_none, cut_weaker}
use Rattle.cliques.proofs.branching.ByBoundBranching.first.Goals as goal

pub returns-clause-cut : goal.returns-clause-cut
returns-clause-cut g c = cut_weaker c.args.arg2.now c.args.m c.args.m 0 c.args.arg4 (omega arith) (cut_none c.args.arg2.now c.args.m)
