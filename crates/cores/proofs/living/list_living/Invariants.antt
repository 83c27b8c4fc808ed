use Rattle.std.proofs.Common.{◌≡◌}
use Rattle.finite.specs.Finite.{members}
use Rattle.supports.specs.Peel.{alive}
use Rattle.cores.proofs.living.list_living.Given as goal

abbrev pub invariant-loop-c : goal.invariant-loop-c
invariant-loop-c g l = l.list.items ≡ members (alive l.n l.living) l.c
