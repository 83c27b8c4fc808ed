use Rattle.std.proofs.Common.{arith}
use Rattle.trying.proofs.Settles.{lay_never, back_never, settled}
use Rattle.trying.proofs.settling.settle.Goals as goal

pub returns-in_err-lay : goal.returns-in_err-lay
returns-in_err-lay g c =
    let x = c.args.source.now in
    absurd (lay_never (g.S.Source.graph x) c.args.first c.args.chosen.now c.args.taken.now c.args.kernel.now (g.met.S.Source.lawful x) c.requires.pulled _ _ _ (omega arith) (omega arith) c.in_err-lay.ensures.0)

pub returns-in_err-put_back : goal.returns-in_err-put_back
returns-in_err-put_back g c =
    let x = c.args.source.now in
    absurd (back_never (g.S.Source.graph x) c.args.first c.args.chosen.now c.args.taken.now c.args.kernel.now (g.met.S.Source.lawful x) c.requires.pulled _ _ (omega arith) c.in_err-put_back.ensures.0)

pub returns : goal.returns
returns g c =
    let x = c.args.source.now in
    settled (g.S.Source.graph x) c.args.first c.args.chosen.now c.args.taken.now c.args.kernel.now (g.met.S.Source.lawful x) c.requires.pulled c.first_yes-drives.result c.first_yes-drives.new.table c.args.colours.now c.lay.new.colours c.put_back.new.colours c.requires.number c.first_yes-drives.ensures c.in_ok-lay.ensures c.in_ok-put_back.ensures
