use Rattle.std.proofs.Common.{◌≡◌, ◌<◌, ◌≤◌, length, ◌∙◌, arith, rules}
use Rattle.std.proofs.lemmas.List.{length-take-le, get_or_append_left}
use Rattle.graph.proofs.Graphs.{degree_le}
use Rattle.order.proofs.fill_degrees.Goals as goal

pub returns : goal.returns
returns g c = λ k l.
    let fits : c.size.result ≤ length c.args.left.now = omega (arith, c.requires, c.size.ensures) in
    let all : length c.loop-c.with-items ≡ c.size.result = search (rules, length-take-le) in
    let end : c.loop-c.c ≡ c.size.result = search (rules, length-take-le) in
    let within : k < length c.loop-c.with-items = omega (arith, l, all, c.size.ensures) in
    get_or_append_left c.loop-c.with-items _ 0 k within ∙ c.loop-c.invariant k (omega (arith, l, end, c.size.ensures))

pub overflow_cast-with : goal.overflow_cast-with
overflow_cast-with g c =
    let lw = g.met.S.Source.lawful c.args.source.now in
    omega (arith, lw.small, degree_le (g.S.Source.graph c.args.source.now) c.loop-c.c, c.degree.ensures)
