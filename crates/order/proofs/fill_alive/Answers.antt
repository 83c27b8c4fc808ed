use Rattle.std.proofs.Common.{◌≡◌, ◌<◌, ◌≤◌, false, length, ◌∙◌, arith, rules}
use Rattle.std.proofs.lemmas.List.{length-take-le, get_or_append_left}
use Rattle.order.proofs.fill_alive.Goals as goal

pub returns : goal.returns
returns g c = λ k l.
    let fits : c.size.result ≤ length c.args.alive.now = omega (arith, c.requires, c.size.ensures) in
    let all : length c.loop-c.lives-items ≡ c.size.result = search (rules, length-take-le) in
    let end : c.loop-c.c ≡ c.size.result = search (rules, length-take-le) in
    let within : k < length c.loop-c.lives-items = omega (arith, l, all, c.size.ensures) in
    get_or_append_left c.loop-c.lives-items _ false k within ∙ c.loop-c.invariant k (omega (arith, l, end, c.size.ensures))
