use Rattle.std.proofs.Common.{◌≡◌, ◌^◌, ◌<◌, drop}
use Rattle.std.specs.Str.{all_ascii_digits}
use Rattle.fields.specs.Numerals.{read_on}
use Rattle.fields.proofs.digits.Given as goal

abbrev pub invariant-loop-c : goal.invariant-loop-c
invariant-loop-c l = (read_on l.v (drop l.c-index l.field) ≡ read_on 0 l.field) × (all_ascii_digits (drop l.c-index l.field) ≡ all_ascii_digits l.field) × (l.v < 10 ^ l.c-index)
