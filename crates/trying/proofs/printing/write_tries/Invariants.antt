use Rattle.std.proofs.Common.{◌≡◌, ◌-◌, ◌++◌, vec_items}
use Rattle.trying.specs.Shown.{no_lines}
use Rattle.trying.proofs.printing.write_tries.Given as goal

abbrev pub invariant-loop-k : goal.invariant-loop-k
invariant-loop-k l = vec_items l.out ≡ vec_items l.initial.out ++ no_lines l.first (l.k - l.first)
