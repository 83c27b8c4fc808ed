use Rattle.std.proofs.Common.{refl, ap, length, arith}
use Rattle.graph.proofs.Graphs.{vertices_le}
use Rattle.progress.proofs.Steps.{unfound}
use Rattle.progress.proofs.state.Progress.new.Goals as goal

pub invariant_of-result : goal.invariant_of-result
invariant_of-result g c =
    let l = vertices_le (g.S.Source.graph c.args.source.now) in
    let s = (g.met.S.Source.lawful c.args.source.now).small in
    record { few = omega (arith, c.vertex_count-held.ensures); climbs = omega arith }

pub returns : goal.returns
returns g c =
    unfound (g.S.Source.graph c.args.source.now) _ refl c.vertex_count-held.ensures refl refl (ap length c.new-2.ensures) refl refl
