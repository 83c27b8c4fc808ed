use Rattle.std.proofs.Common.{rules}
use Rattle.jobs.specs.Sharing.{past_degree, degree_all}
use Rattle.jobs.proofs.JobFormListed.degree.Goals as goal

pub returns-then-c-len : goal.returns-then-c-len
returns-then-c-len c = search (rules, past_degree)

pub returns : goal.returns
returns c = search (rules, degree_all)
