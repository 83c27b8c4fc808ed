-- The standings of a planner, and which of them takes which operation.
use Rattle.std.specs.Prelude.{ℕ, Bool, true, false}
use Rattle.graph.specs.declared.refusal.Refusal.{Refusal}
use Rattle.graph.specs.declared.refusal.Refusal.TheVariants.{OutOfTurn, NothingPulled}
use Rattle.calls.specs.declared.standing.Standing.{Standing}
use Rattle.calls.specs.declared.standing.Standing.TheVariants.{Loose, Ordered, Climbed, Pulled, Won, Closed}
use Rattle.calls.specs.declared.standing.Operation.{Operation}
use Rattle.calls.specs.declared.standing.Operation.TheVariants.{Hide, Show, Order, Climb, Pull, Try, PutBack, Report, Cap, Block, Plan}
use Rattle.calls.specs.declared.call.Call.{Call}
use Rattle.calls.specs.declared.call.Call.TheVariants as call

-- the number of each standing
abbrev pub standing_number : Standing → ℕ
standing_number Loose = 0
standing_number Ordered = 1
standing_number Climbed = 2
standing_number Pulled = 3
standing_number Won = 4
standing_number Closed = 5

-- which standings are taken together: one column each for loose, ordered, climbed, pulled, won and closed
abbrev pub among : Bool → Bool → Bool → Bool → Bool → Bool → Standing → Bool
among a b c d e f Loose = a
among a b c d e f Ordered = b
among a b c d e f Climbed = c
among a b c d e f Pulled = d
among a b c d e f Won = e
among a b c d e f Closed = f

-- there is neither order nor block nor plan
abbrev pub loose : Standing → Bool
loose = among true false false false false false

-- the kernel is out
abbrev pub out : Standing → Bool
out = among false false false true true false

-- every cartridge is climbed
abbrev pub full : Standing → Bool
full = among false false true true true true

-- a try has said yes
abbrev pub solved : Standing → Bool
solved = among false false false false true true

-- the table: whether the standing takes the operation
abbrev pub takes : Standing → Operation → Bool
takes s Hide = among true true true false false true s
takes s Show = among true true true false false true s
takes s Order = among true true true false false true s
takes s Climb = among false true false false false false s
takes s Pull = among false false true false false false s
takes s Try = among false false false true false false s
takes s PutBack = among false false false true true false s
takes s Report = among true true true true true true s
takes s Cap = among true true true true true true s
takes s Block = among false true true true true true s
takes s Plan = among false true true true true true s

-- where a put back leads
abbrev pub put_back_to : Standing → Standing
put_back_to Loose = Loose
put_back_to Ordered = Ordered
put_back_to Climbed = Climbed
put_back_to Pulled = Climbed
put_back_to Won = Closed
put_back_to Closed = Closed

-- the operation of a call
abbrev pub operation : Call → Operation
operation (call.Hide c) = Hide
operation (call.Show c) = Show
operation call.Order = Order
operation call.Climb = Climb
operation call.Pull = Pull
operation call.Try = Try
operation call.PutBack = PutBack
operation call.Report = Report

-- how an operation is refused where the standing does not take it
abbrev pub turned_away : Operation → Refusal
turned_away Hide = OutOfTurn
turned_away Show = OutOfTurn
turned_away Order = OutOfTurn
turned_away Climb = OutOfTurn
turned_away Pull = OutOfTurn
turned_away Try = OutOfTurn
turned_away PutBack = NothingPulled
turned_away Report = OutOfTurn
turned_away Cap = OutOfTurn
turned_away Block = OutOfTurn
turned_away Plan = OutOfTurn
