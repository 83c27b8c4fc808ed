use Rattle.std.proofs.Common.{◌≡◌, ◌+◌, cond, ◌&&◌, leb, get_or, sym, ap, ◌∙◌, arith, get_or-take}
use Rattle.std.proofs.lemmas.List.{length-take-le}
use Rattle.grids.specs.Largest.{at_least, most}
use Rattle.grids.proofs.Largest.{most_none}
use Rattle.grids.proofs.Pairs.{pair_yes, pair_no, pair_all}
use Rattle.two_part.proofs.pairing.best_with.Goals as goal
use Rattle.two_part.proofs.pairing.best_with.Goals.{then-s-reaching, else-s-reaching}

pub loop-r-init : goal.loop-r-init
loop-r-init c =
    sym (most_none (λ r. cond (leb r (at_least c.args.us.now c.args.s) && leb c.args.s (get_or c.args.reached.now r 0)) (r + c.args.s) 0))

pub loop-r-preserved : goal.loop-r-preserved
loop-r-preserved c =
    let xs = c.args.reached.now in
    let r = c.loop-r.r in
    let l = length-take-le (c.reach.result + 1) xs (omega (arith, c.reach.ensures.bound)) in
    let e = get_or-take (c.reach.result + 1) xs r 0 (omega arith) in
    elim c.if-s-reaching.branch [
      | then-s-reaching w ↦ w.best-is ∙ pair_yes (at_least c.args.us.now c.args.s) c.args.s (λ r. get_or xs r 0) r (omega arith) (grind (arith, e, w.if-s-reaching.true))
      | else-s-reaching w ↦ w.best-is ∙ c.loop-r.invariant ∙ pair_no (at_least c.args.us.now c.args.s) c.args.s (λ r. get_or xs r 0) r (grind (arith, e, w.if-s-reaching.false))
    ]

pub returns : goal.returns
returns c =
    let xs = c.args.reached.now in
    let l = length-take-le (c.reach.result + 1) xs (omega (arith, c.reach.ensures.bound)) in
    let e : c.loop-r.r ≡ at_least c.args.us.now c.args.s + 1 = omega arith in
    c.loop-r.invariant ∙ ap (most (λ r. cond (leb r (at_least c.args.us.now c.args.s) && leb c.args.s (get_or xs r 0)) (r + c.args.s) 0)) e ∙ pair_all (at_least c.args.us.now c.args.s) c.args.s (λ r. get_or xs r 0) (omega (arith, c.reach.ensures.bound))
