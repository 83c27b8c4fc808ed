use Rattle.writing.proofs.Uppers.{row_none, row_more, row_skip, row_all}
use Rattle.writing.proofs.write_row.Goals as goal

pub loop-b-init : goal.loop-b-init
loop-b-init c =
    let s = c.of-b-items.ensures in
    rw c.into_iter-b-iterator.ensures.into_iter_gives (row_none _ _ _ _ _ _ s.source s.vertex s.start)

pub loop-b-preserved-in-Continue-1 : goal.loop-b-preserved-in-Continue-1
loop-b-preserved-in-Continue-1 c =
    let s = c.in-Some.ensures.steps in
    row_more _ _ c.in-Some.b _ _ _ _ _ _ _ _ _ c.loop-b.invariant s.2 s.0 s.1 c.if-b-a.true c.in_ok-write_line.ensures

pub loop-b-preserved : goal.loop-b-preserved
loop-b-preserved c =
    let s = c.in-Some.ensures.steps in
    row_skip _ _ c.in-Some.b _ _ _ _ _ _ _ _ c.loop-b.invariant s.2 s.0 s.1 c.if-b-a.false

pub returns : goal.returns
returns c = let s = c.in-None.ensures.steps in row_all _ _ _ _ _ _ _ _ c.loop-b.invariant s.2
