use Rattle.std.proofs.Common.{length, arith}
use Rattle.cores.proofs.Cored.{core_from, never_refused}
use Rattle.cores.proofs.core.Goals as goal

pub returns : goal.returns
returns g c =
    core_from (g.S.Source.graph c.args.source.now) c.args.least c.args.living.now c.fill_held.new.living c.peel.new.living c.args.taken.now c.peel.new.taken c.in_ok-len.len c.fill_held.ensures c.in_ok-len.ensures.cases.0

pub returns-in_err-len : goal.returns-in_err-len
returns-in_err-len g c =
    let G = g.S.Source.graph c.args.source.now in
    let small = (g.met.S.Source.lawful c.args.source.now).small in
    let e = c.size-n.ensures in
    absurd (never_refused G.size (length c.fill_held.new.living) _ (length c.args.taken.now) _ small (omega arith) (omega arith) c.in_err-len.ensures.refused)
