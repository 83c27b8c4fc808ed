use Rattle.std.proofs.Common.{◌∙◌, arith}
use Rattle.stamps.proofs.Ranks.{first_none, first_more, first_all}
use Rattle.stamps.proofs.writing.write.Goals as goal

pub loop-b-init : goal.loop-b-init
loop-b-init g c = (cc, cc, first_none _ _ _ _ _ (cc))

pub loop-b-preserved : goal.loop-b-preserved
loop-b-preserved g c =
    let inv = c.loop-b.invariant in
    let e = c.in-Some.ensures.steps in
    let s = e.2 in
    let within = rw inv.0 at s.0 in
    let law = g.met.S.Source.lawful c.args.source.now in
    (e.0 ∙ inv.0, e.1 ∙ inv.1, first_more _ _ _ _ _ _ _ _ inv.2 (omega (arith, law.small, within)) (rw (inv.0, inv.1) at s.1) (rw (inv.0, inv.1) at s.2) s.4)

pub returns : goal.returns
returns g c =
    let inv = c.loop-b.invariant in
    let all = rw (inv.0, inv.1) at c.in-None.ensures.steps.2.0 in
    first_all _ _ _ _ _ _ inv.2 (omega (arith, all))
