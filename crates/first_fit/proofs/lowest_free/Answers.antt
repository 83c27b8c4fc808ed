use Rattle.std.proofs.Common.{◌<◌, arith}
use Rattle.first_fit.proofs.Marks.{marked_end, marked_lowest}
use Rattle.first_fit.proofs.lowest_free.Goals as goal

top : (g : _) (c : goal.After-first_free g) → c.first_free.result < g.row.N
top g c =
    let s = c.taken_near-taken.ensures in
    let f = c.first_free.ensures in
    marked_end (g.S.Source.graph c.args.source.now) c.args.x c.args.colours.now g.row.N c.taken_near-taken.result c.first_free.result s c.requires.few (omega (arith, f.high_bound, s.long)) f.before

pub overflow_cast-result : goal.overflow_cast-result
overflow_cast-result g c = omega (arith, top g c, c.requires.small)

pub returns-clause-value : goal.returns-clause-value
returns-clause-value g c =
    let s = c.taken_near-taken.ensures in
    let f = c.first_free.ensures in
    let t = top g c in
    marked_lowest (g.S.Source.graph c.args.source.now) c.args.x c.args.colours.now g.row.N c.taken_near-taken.result c.first_free.result s f.low_bound t f.before (f.found (omega (arith, s.long)))

pub returns-clause-bound : goal.returns-clause-bound
returns-clause-bound g c = top g c
