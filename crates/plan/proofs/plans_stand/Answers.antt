use Rattle.degeneracy.proofs.Plans.{plan_one}
use Rattle.colourings.proofs.Used.{clique_used}
use Rattle.plan.proofs.plans_stand.Goals as goal

pub returns : goal.returns
returns c = record { one = plan_one; clique = clique_used }
