use Rattle.std.proofs.Common.{◌<◌, inl, inr, arith}
use Rattle.std.proofs.lemmas.List.{get_or_past}
use Rattle.std.proofs.lemmas.Bool.{cases_lt}
use Rattle.std.proofs.lemmas.Bool.Decides.{nat_tests}
use Rattle.finite.proofs.Tables.{filled_at}
use Rattle.items.proofs.wipe.Goals as goal

pub returns : goal.returns
returns c = λ k.
    let m = c.min-n.result in
    let e = c.min-n.ensures in
    let old = c.args.marks.now in
    let h = filled_at c.fill.new.self old m 0 k (omega arith) (c.fill.ensures.after (λ y q. q)) in
    elim (cases_lt k m) [
      | inl l ↦ let a : k < c.args.n = omega arith in grind (arith, nat_tests)
      | inr l ↦ elim (cases_lt k c.args.n) [
        | inl b ↦ let z = get_or_past old k 0 (omega arith) in grind (arith, nat_tests)
        | inr b ↦ grind (arith, nat_tests)
      ]
    ]
