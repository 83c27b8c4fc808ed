use Rattle.std.proofs.Common.{subst, rules}
use Rattle.std.proofs.lemmas.Result.{err_from_is_err_and}
use Rattle.lines.specs.Kept.{Unplaced}
use Rattle.sheets.proofs.Stocks.{rewrites, loaded_memory}
use Rattle.sheets.proofs.rounds.rewrite.Goals as goal

pub returns-in_err-text : goal.returns-in_err-text
returns-in_err-text c =
    let p = err_from_is_err_and c.from_residual-in_err-text.result c.from_residual-in_err-text.ensures.1 in
    rw p.1 (loaded_memory c.args.sheet.now _ _ p.0 c.in_ok-form.ensures (subst (λ r. Unplaced r p.0) (search rules) p.2))

pub returns : goal.returns
returns c = rewrites c.args.sheet.now _ _ _ c.in_ok-form.ensures (search rules)
