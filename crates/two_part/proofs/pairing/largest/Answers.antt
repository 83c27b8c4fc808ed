use Rattle.std.proofs.Common.{◌≡◌, ◌+◌, cond, length, sym, ap, ◌∙◌, arith}
use Rattle.grids.specs.Largest.{at_least, most, qualifies}
use Rattle.grids.proofs.Largest.{most_none, largest_le}
use Rattle.grids.proofs.Pairs.{rows_turn, rows_all}
use Rattle.two_part.proofs.pairing.largest.Goals as goal

pub loop-s-init : goal.loop-s-init
loop-s-init c =
    sym (most_none (λ s. most (λ r. cond (qualifies (at_least c.args.us.now) (at_least c.args.ws.now) r s) (r + s) 0) 65))

pub loop-s-preserved : goal.loop-s-preserved
loop-s-preserved c =
    rows_turn c.args.us.now c.args.ws.now c.table-reached.result.items c.loop-s.s c.loop-s.best c.best_with.result c.max-best.result c.table-reached.ensures.places c.loop-s.invariant (rw c.deref.ensures.0 at c.best_with.ensures) c.max-best.ensures

pub returns : goal.returns
returns c =
    let e : c.loop-s.s ≡ length c.args.ws.now + 1 = omega arith in
    let v = c.loop-s.invariant ∙ ap (most (λ s. most (λ r. cond (qualifies (at_least c.args.us.now) (at_least c.args.ws.now) r s) (r + s) 0) 65)) e ∙ rows_all c.args.us.now c.args.ws.now (omega arith) in
    record { value = v; bound = omega (arith, largest_le (at_least c.args.us.now) (at_least c.args.ws.now)) }
