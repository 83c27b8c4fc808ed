-- What pull and put back answer, as replies.
use Rattle.std.specs.Prelude.{Ok, Err, Result}
use Rattle.graph.specs.declared.refusal.Refusal.{Refusal}
use Rattle.calls.specs.declared.call.Reply.{Reply}
use Rattle.calls.specs.declared.call.Reply.TheVariants.{Done, Refused}
use Rattle.planner.specs.declared.planner.kernel.Slip.{Slip}

abbrev pub pulled : Result Slip Refusal → Reply
pulled (Ok slip) = Done
pulled (Err e) = Refused e

abbrev pub returned : Result (Unit {0}) (Refusal × Slip) → Reply
returned (Ok u) = Done
returned (Err e) = Refused e.0
