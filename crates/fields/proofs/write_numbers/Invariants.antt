use Rattle.std.proofs.Common.{◌≡◌, ◌++◌, take, vec_items}
use Rattle.fields.proofs.Lines.{tabs}
use Rattle.fields.proofs.write_numbers.Given as goal

abbrev pub invariant-loop-x : goal.invariant-loop-x
invariant-loop-x g l = vec_items l.out ≡ vec_items l.initial.out ++ tabs g.T.Unsigned.value (take l.x-index l.numbers)
