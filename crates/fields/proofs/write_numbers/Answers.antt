use Rattle.std.proofs.Common.{ℕ, ◌∙◌, ap, ◌++◌, decimal}
use Rattle.fields.proofs.Lines.{line_none, line_more, line_all}
use Rattle.fields.proofs.write_numbers.Goals as goal

pub loop-x-init : goal.loop-x-init
loop-x-init g c = line_none g.T.Unsigned.value _

pub loop-x-preserved : goal.loop-x-preserved
loop-x-preserved g c =
    let d = c.in_ok-write_number.ensures ∙ ap (λ (v : ℕ). c.push-in-loop-x.new.self.items ++ decimal v) c.widened.ensures in
    line_more g.T.Unsigned.value _ _ _ _ c.args.numbers.now c.loop-x.x-index c.x-item.result c.loop-x-test.true c.x-item.is c.loop-x.invariant c.in_ok-push-2.ensures.items d

pub returns : goal.returns
returns g c =
    line_all g.T.Unsigned.value _ _ _ _ c.args.letter c.args.numbers.now c.loop-x.x-index c.loop-x-test.false c.in_ok-push.ensures.items c.loop-x.invariant c.in_ok-push-3.ensures.items
