use Rattle.std.proofs.Common.{◌∙◌, arith, rules, tests}
use Rattle.std.proofs.lemmas.Iterator.{YieldsList-from_range}
use Rattle.std.proofs.lemmas.Iterator.Consumers.{count_from_yields_List}
use Rattle.finite.proofs.Chains.{members_from_filter}
use Rattle.finite.proofs.Members.{length_members}
use Rattle.graph.specs.Graph.{clash}
use Rattle.jobs.specs.Jobs.{sharing}
use Rattle.jobs.proofs.before.Goals as goal

pub returns : goal.returns
returns c =
    let p = clash (sharing c.args.masks.now) c.args.a in
    let n = c.args.end in
    count_from_yields_List c.filter.result _ c.count.ensures.ran (members_from_filter _ p n (YieldsList-from_range 0 n n (cc) (omega arith)) c.filter.ensures.closure (λ x r q k. search (rules, tests)))
    ∙ length_members p n
