use Rattle.std.proofs.Common.{ℕ, List, vec_items, subst, arith, rules}
use Rattle.std.proofs.lemmas.List.{take_all}
use Rattle.std.proofs.lemmas.Result.{IfOk-weaker}
use Rattle.sizing.specs.Sized.{Prints}
use Rattle.sizing.proofs.Sizes.{prints_answer}
use Rattle.sizing.proofs.respond.Goals as goal

pub returns : goal.returns
returns c =
    IfOk-weaker c.print_stock.result _ _ (λ v h. subst (λ (xs : List ℕ). Prints xs (vec_items v)) (grind (arith, take_all)) (prints_answer vec_items _ _ _ (λ form t r. search rules) (λ form x r. search rules) h)) c.print_stock.ensures
