use Rattle.std.proofs.Common.{arith}
use Rattle.graph.proofs.Walks.{next_of, last_of}
use Rattle.first_fit.proofs.Marks.{marks_yes, marks_no, marks_all}
use Rattle.first_fit.proofs.taken_near.Goals as goal

pub loop-b-preserved-then-colour : goal.loop-b-preserved-then-colour
loop-b-preserved-then-colour g c =
    let G = g.S.Source.graph c.args.source.now in
    let n = next_of c.loop-b.invariant.0 c.in-Some.ensures.steps in
    (n.here, marks_yes G c.args.x c.args.colours.now g.row.N c.loop-b.b-iterator.passed _ c.in-Some.b _ _ c.loop-b.taken c.loop-b.invariant.1 n.is n.passed (omega arith) (omega arith) (grind arith))

pub loop-b-preserved : goal.loop-b-preserved
loop-b-preserved g c =
    let G = g.S.Source.graph c.args.source.now in
    let n = next_of c.loop-b.invariant.0 c.in-Some.ensures.steps in
    (n.here, marks_no G c.args.x c.args.colours.now g.row.N c.loop-b.b-iterator.passed _ c.in-Some.b c.loop-b.taken c.loop-b.invariant.1 n.is n.passed (omega arith))

pub returns : goal.returns
returns g c =
    marks_all (g.S.Source.graph c.args.source.now) c.args.x c.args.colours.now g.row.N c.loop-b.b-iterator.passed c.loop-b.taken c.loop-b.invariant.1 (omega (arith, last_of c.loop-b.invariant.0 c.in-None.ensures.steps))
