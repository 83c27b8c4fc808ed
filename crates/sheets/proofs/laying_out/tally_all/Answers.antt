use Rattle.std.proofs.Common.{take}
use Rattle.sheets.proofs.Lays.{count_never, count_next, count_all}
use Rattle.sheets.proofs.laying_out.tally_all.Goals as goal

pub returns-in_err-count : goal.returns-in_err-count
returns-in_err-count c =
    λ g. absurd (count_never c.args.n c.args.edges.now c.loop-e.e-index _ _ g c.loop-e-test.true (c.in_err-count.ensures c.args.n (take c.loop-e.e-index c.args.edges.now) (c.loop-e.invariant g)).0)

pub loop-e-preserved : goal.loop-e-preserved
loop-e-preserved c =
    λ g. count_next c.args.n c.args.edges.now c.loop-e.e-index _ _ c.loop-e-test.true (c.in_ok-count.ensures c.args.n (take c.loop-e.e-index c.args.edges.now) (c.loop-e.invariant g)).1

pub returns : goal.returns
returns c = λ g. count_all c.args.n c.args.edges.now c.loop-e.e-index _ c.loop-e-test.false (c.loop-e.invariant g)
