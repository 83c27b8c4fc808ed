use Rattle.std.proofs.Common.{refl}
use Rattle.searching.proofs.Cuts.{cut_few, nothing_within}
use Rattle.branching.proofs.to_branch.Goals as goal

pub returns-else-may_pass : goal.returns-else-may_pass
returns-else-may_pass g c =
    record { within = nothing_within c.args.m; cut = cut_few c.args.p.now c.args.m c.args.room (c.if-may_pass.ensures.left refl) }
