use Rattle.std.proofs.Common.{◌≡◌, false, get_or, take}
use Rattle.finite.specs.Finite.{count, members}
use Rattle.climb.proofs.blocks.write_block.Given as goal

abbrev pub invariant-loop-c : goal.invariant-loop-c
invariant-loop-c l =
    (l.len ≡ count (λ c. get_or l.table c false) l.c) × (take l.len l.block ≡ members (λ c. get_or l.table c false) l.c)
