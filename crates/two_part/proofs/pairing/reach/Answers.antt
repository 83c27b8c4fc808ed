use Rattle.std.proofs.Common.{◌≡◌, leb, length, get_or, sym, ap, ◌∙◌, arith}
use Rattle.std.proofs.lemmas.Bool.{le-leb, lt-leb}
use Rattle.finite.specs.Finite.{count}
use Rattle.finite.proofs.Counts.{count_zero, count_le, count_more_yes, count_more_no}
use Rattle.grids.proofs.Pairs.{at_least_le}
use Rattle.two_part.proofs.pairing.reach.Goals as goal
use Rattle.two_part.proofs.pairing.reach.Goals.{then-t-least, else-t-least}

pub loop-t-init : goal.loop-t-init
loop-t-init c = sym (count_zero (λ k. leb c.args.least (get_or c.args.tops.now k 0)))

pub overflow_add-count : goal.overflow_add-count
overflow_add-count c =
    let h = count_le (λ k. leb c.args.least (get_or c.args.tops.now k 0)) c.loop-t.t-index in omega arith

pub loop-t-preserved : goal.loop-t-preserved
loop-t-preserved c =
    elim c.if-t-least.branch [
      | then-t-least w ↦ let e = count_more_yes (λ k. leb c.args.least (get_or c.args.tops.now k 0)) c.loop-t.t-index (le-leb _ _ w.if-t-least.true) in omega (arith, w.count-is)
      | else-t-least w ↦ let e = count_more_no (λ k. leb c.args.least (get_or c.args.tops.now k 0)) c.loop-t.t-index (lt-leb _ _ w.if-t-least.false) in omega (arith, w.count-is)
    ]

pub returns : goal.returns
returns c =
    let e : c.loop-t.t-index ≡ length c.args.tops.now = omega arith in
    let v = c.loop-t.invariant ∙ ap (count (λ k. leb c.args.least (get_or c.args.tops.now k 0))) e in
    record { value = v; bound = omega (arith, at_least_le c.args.tops.now c.args.least) }
