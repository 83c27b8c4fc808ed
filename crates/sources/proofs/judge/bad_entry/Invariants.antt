use Rattle.std.proofs.Common.{ℕ, ◌<◌}
use Rattle.rows.specs.Rows.{SoundRow}
use Rattle.sources.proofs.judge.bad_entry.Given as goal

abbrev pub invariant-loop-c : goal.invariant-loop-c
invariant-loop-c l = (d : ℕ) → d < l.c → SoundRow l.offsets l.neighbours d
