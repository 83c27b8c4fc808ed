use Rattle.std.proofs.Common.{arith}
use Rattle.std.proofs.lemmas.Fn.{gave_at}
use Rattle.std.proofs.lemmas.Result.{err_from_is_err_and}
use Rattle.printout.proofs.Prints.{answers_no, answers_yes}
use Rattle.printout.proofs.answered.Goals as goal

pub returns-in_err-text : goal.returns-in_err-text
returns-in_err-text g c =
    let p = err_from_is_err_and c.from_residual-in_err-text.result c.from_residual-in_err-text.ensures.1 in
    rw p.1 (answers_no c.args.input.now c.in_ok-form.form c.in_err-text.field-0.0 p.0 (omega arith) c.in_ok-form.ensures (gave_at g.F.FnOnce c.answer.ensures c.in_err-text.was) p.2)

pub returns : goal.returns
returns g c = answers_yes c.args.input.now c.in_ok-form.form c.in_ok-text.text (omega arith) c.in_ok-form.ensures (gave_at g.F.FnOnce c.answer.ensures c.in_ok-text.was)
