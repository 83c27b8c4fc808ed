-- Strings of calls with their replies, and what each point of one is.
use Rattle.std.specs.Prelude.{ℕ, ◌+◌, Bool, true, false, cond, not, ◌&&◌, ◌||◌, List, [], ◌∷◌, ◌==◌}
use Rattle.graph.specs.Graph.{Graph, vertices}
use Rattle.graph.specs.Hiding.{without}
use Rattle.calls.specs.declared.standing.Standing.{Standing}
use Rattle.calls.specs.declared.standing.Standing.TheVariants.{Loose, Ordered, Climbed, Pulled, Won}
use Rattle.calls.specs.declared.call.Call.{Call}
use Rattle.calls.specs.declared.call.Call.TheVariants.{Hide, Show, Order, Climb, Pull, Try, PutBack, Report}
use Rattle.calls.specs.declared.call.Reply.{Reply}
use Rattle.calls.specs.declared.call.Reply.TheVariants.{Done, Refused, Remaining, Tried, Told}
use Rattle.calls.specs.Table.{put_back_to}

-- a call and what was answered
pub record Event : Type 0 where
  pub call : Call
  pub reply : Reply

abbrev pub event : Call → Reply → Event
event c r = record { call = c; reply = r }

-- the newest first
abbrev pub History : Type 0
History = List Event

-- a point of a string: which numbers are hidden, where the planner stands, how many climbs were taken since the last
-- order, and how many tries said no since the last order, hide or show
pub record Point : Type 0 where
  pub hidden : ℕ → Bool
  pub standing : Standing
  pub climbs : ℕ
  pub noes : ℕ

-- the first point: loose, with nothing hidden
abbrev pub start : Point
start = record { hidden = λ c. false; standing = Loose; climbs = 0; noes = 0 }

-- what is held at a point, with its clashes
abbrev pub graph_at : Graph → Point → Graph
graph_at g x = without g x.hidden

-- loose, with these hidden
abbrev pub loosened : (ℕ → Bool) → Point
loosened hidden = record { hidden = hidden; standing = Loose; climbs = 0; noes = 0 }

-- the same, standing elsewhere
abbrev pub stand : Point → Standing → Point
stand x s = record { hidden = x.hidden; standing = s; climbs = x.climbs; noes = x.noes }

-- where so many climbs lead
abbrev pub climbed_to : Graph → ℕ → Standing
climbed_to g j = cond (j == vertices g) Climbed Ordered

-- the point after a call that was taken; `won` says whether a try said yes
abbrev pub moved : Graph → Point → Call → Bool → Point
moved g x (Hide c) won = loosened (λ k. x.hidden k || k == c)
moved g x (Show c) won = loosened (λ k. x.hidden k && not (k == c))
moved g x Order won =
    record { hidden = x.hidden; standing = climbed_to (graph_at g x) 0; climbs = 0; noes = 0 }
moved g x Climb won =
    record { hidden = x.hidden; standing = climbed_to (graph_at g x) (x.climbs + 1); climbs = x.climbs + 1; noes = x.noes }
moved g x Pull won = stand x Pulled
moved g x Try won =
    record { hidden = x.hidden; standing = cond won Won Pulled; climbs = x.climbs; noes = cond won x.noes (x.noes + 1) }
moved g x PutBack won = stand x (put_back_to x.standing)
moved g x Report won = x

-- whether a call was taken
abbrev pub was_taken : Reply → Bool
was_taken Done = true
was_taken (Refused e) = false
was_taken (Remaining n) = true
was_taken (Tried won) = true
was_taken (Told r) = true

-- whether a try said yes
abbrev pub said_yes : Reply → Bool
said_yes Done = false
said_yes (Refused e) = false
said_yes (Remaining n) = false
said_yes (Tried won) = won
said_yes (Told r) = false

-- the point after an event: a refused call changes nothing
abbrev pub next : Graph → Point → Event → Point
next g x e = cond (was_taken e.reply) (moved g x e.call (said_yes e.reply)) x

-- the point that a history leads to
abbrev pub point_at : Graph → History → Point
point_at g [] = start
point_at g (e ∷ h) = next g (point_at g h) e
