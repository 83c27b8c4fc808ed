use Rattle.std.proofs.Common.{◌+◌, ◌-◌, ◌≤◌, length, take, vec_items, vec_len, vec_capacity}
use Rattle.running.specs.Played.{Carried, Matched}
use Rattle.running.proofs.strings.carry_out.Given as goal

abbrev pub invariant-loop-call : goal.invariant-loop-call
invariant-loop-call g l =
    (vec_len l.replies + (length l.calls - l.call-index) ≤ vec_capacity l.replies)
    × Carried g.S.Source.graph l.initial.planner (take l.call-index l.calls) (vec_items l.initial.replies) (vec_items l.replies) l.planner
    × Matched g.S.Source.graph l.planner l.spare
