use Rattle.std.proofs.Common.{vec_items, rules}
use Rattle.std.proofs.lemmas.Result.{IfOk-weaker}
use Rattle.printout.proofs.Prints.{prints_clean, rewrites_clean}
use Rattle.printout.proofs.clean_sheet.Goals as goal

pub returns-clause-value : goal.returns-clause-value
returns-clause-value c =
    IfOk-weaker c.print_stock.result _ _ (λ v h. prints_clean vec_items _ c.args.input.now _ (λ form t r. search rules) (λ form x r. search rules) h) c.print_stock.ensures

pub returns-clause-same : goal.returns-clause-same
returns-clause-same c =
    IfOk-weaker c.print_stock.result _ _ (λ v h. rewrites_clean vec_items _ c.args.input.now _ (λ form t r. search rules) (λ form x r. search rules) h) c.print_stock.ensures
