use Rattle.std.proofs.Common.{◌≡◌, ◌++◌, vec_items}
use Rattle.printout.specs.Printed.{drive_lines}
use Rattle.printout.proofs.write_drives.Given as goal

abbrev pub invariant-loop-c : goal.invariant-loop-c
invariant-loop-c l = vec_items l.out ≡ vec_items l.initial.out ++ drive_lines l.colours l.c
