use Rattle.std.proofs.Common.{arith}
use Rattle.graph.proofs.Graphs.{vertices_le}
use Rattle.order.proofs.degeneracy.Goals as goal

pub remove_all-requires : goal.remove_all-requires
remove_all-requires g c =
    let lw = g.met.S.Source.lawful c.args.source.now in
    omega (arith, lw.small, vertices_le (g.S.Source.graph c.args.source.now))

pub returns : goal.returns
returns g c = record { len = c.remove_all.ensures.len_is; degeneracy = c.remove_all.ensures.degeneracy }
