use Rattle.std.proofs.Common.{refl}
use Rattle.progress.proofs.Kernels.{closed, won_pulled}
use Rattle.progress.proofs.state.Progress.put_back.Goals as goal

pub returns-in-Ok : goal.returns-in-Ok
returns-in-Ok g c =
    let G = g.S.Source.graph c.args.source.now in
    let p = c.args.self.now in
    record {
      given_up = λ climbs noes y. absurd (won_pulled G G 0 0 climbs noes p c.in-Won.is y);
      closed = λ climbs noes y. closed G climbs noes p _ y (record { held = refl; degeneracy = refl; order = refl; block = refl; size = refl }) refl refl refl refl (c.in-Ok.ensures climbs noes y);
    }

pub returns-in_default-new_plan : goal.returns-in_default-new_plan
returns-in_default-new_plan g c =
    let G = g.S.Source.graph c.args.source.now in
    let p = c.args.self.now in
    record {
      given_up = λ climbs noes y. absurd (won_pulled G G 0 0 climbs noes p c.in-Won.is y);
      closed = λ climbs noes y. absurd (c.in_default-new_plan.ensures climbs noes y);
    }
