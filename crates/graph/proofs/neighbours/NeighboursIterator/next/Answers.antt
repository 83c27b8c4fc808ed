use Rattle.std.proofs.Common.{◌+◌, ◌<◌, arith, rules}
use Rattle.graph.proofs.Graphs.{degree_le, rank_below}
use Rattle.graph.proofs.neighbours.NeighboursIterator.next.Goals as goal

pub overflow_add-self : goal.overflow_add-self
overflow_add-self g c =
    let s = c.args.self.now in
    let G = g.S.Source.graph s.source.now in
    let l = (g.met.S.Source.lawful s.source.now).small in
    let h : s.passed + 1 < 2000 = omega (arith, rank_below G s.vertex s.passed c.in_ok-b.b c.in_ok-b.ensures.ranked, degree_le G s.vertex) in
    search rules

pub invariant_of-self : goal.invariant_of-self
invariant_of-self g c =
    let s = c.args.self.now in
    record { within = omega (arith, rank_below (g.S.Source.graph s.source.now) s.vertex s.passed c.in_ok-b.b c.in_ok-b.ensures.ranked) }
