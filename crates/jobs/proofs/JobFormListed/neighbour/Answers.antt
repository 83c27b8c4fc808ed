use Rattle.std.proofs.Common.{vec_items, arith, rules}
use Rattle.jobs.specs.Jobs.{sharing}
use Rattle.graph.proofs.Graphs.{degree_past}
use Rattle.jobs.specs.Sharing.{past_degree}
use Rattle.jobs.proofs.JobFormListed.neighbour.Goals as goal

pub returns-then-c-len : goal.returns-then-c-len
returns-then-c-len c =
    let js = vec_items c.args.self.now.masks in
    let e = past_degree js c.args.c (search rules) in
    record { listed = degree_past (sharing js) c.args.c c.args.i (omega arith); ranked = omega arith }
