use Rattle.std.proofs.Common.{◌≡◌, ℕ, cond, List, get_or, take, sym, subst, arith}
use Rattle.std.proofs.lemmas.List.{take_all}
use Rattle.std.proofs.lemmas.Bool.{cond-false}
use Rattle.finite.specs.Finite.{has}
use Rattle.finite.proofs.Counts.{has_none, has_at}
use Rattle.supports.proofs.Tables.{revived_more}
use Rattle.peeling.proofs.tables.revive.Goals as goal

pub loop-x-init : goal.loop-x-init
loop-x-init c = λ k. sym (cond-false (has (take 0 c.args.taken.now) k) 1 (get_or c.args.living.now k 0) (has_none k))

pub bounds-living-x : goal.bounds-living-x
bounds-living-x c =
    omega (arith, c.requires _ (has_at c.args.taken.now c.loop-x.x-index (omega arith)))

pub loop-x-preserved : goal.loop-x-preserved
loop-x-preserved c =
    revived_more c.args.taken.now c.args.living.now c.loop-x.living c.loop-x.x-index (omega arith) (omega (arith, c.requires _ (has_at c.args.taken.now c.loop-x.x-index (omega arith)))) c.loop-x.invariant

pub returns : goal.returns
returns c = λ k. subst (λ (xs : List ℕ). get_or c.loop-x.living k 0 ≡ cond (has xs k) 1 (get_or c.args.living.now k 0)) (take_all c.loop-x.x-index c.args.taken.now (omega arith)) (c.loop-x.invariant k)
