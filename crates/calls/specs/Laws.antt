-- What is known of every string of calls.
use Rattle.std.specs.Prelude.{◌≡◌, ℕ, ◌+◌, ◌-◌, ◌≤◌, Bool, true, false, cond, not, ◌||◌, List, [], ◌∷◌, ◌++◌, length, replicate}
use Rattle.finite.specs.Finite.{count}
use Rattle.graph.specs.Graph.{Graph, Lawful, vertices}
use Rattle.graph.specs.Cliques.{Clique, CliqueOf}
use Rattle.graph.specs.Colourings.{Proper, used}
use Rattle.calls.specs.declared.call.Call.{Call}
use Rattle.calls.specs.declared.call.Call.TheVariants.{Hide, Show, Order, Climb, Pull, Try, PutBack, Report}
use Rattle.calls.specs.declared.call.Reply.{Reply}
use Rattle.calls.specs.declared.call.Reply.TheVariants.{Done, Refused, Remaining, Tried, Told}
use Rattle.calls.specs.declared.call.Report.{Report as Numbers}
use Rattle.calls.specs.Points.{Event, History, Point, event, graph_at, point_at, was_taken}
use Rattle.calls.specs.Parts.{Assignment, Block, PlanAt}
use Rattle.calls.specs.Fair.{FairHistory, FairRun, Reported}
use Rattle.calls.specs.Table.{loose}

-- the numbers r of a report are the best that can be: the plan is a proper assignment with that ceiling of drives,
-- and every proper assignment uses at least as many; the block is a clash set as large as reported, and every clash
-- set is at most as large
pub record Best (g : Graph) (x : Point) (r : Numbers) : Type 0 where
  pub some_plan : (col : ℕ → ℕ) × PlanAt g x.standing x.climbs r.floor col
  pub plan : (col : ℕ → ℕ) → PlanAt g x.standing x.climbs r.floor col → Assignment g col × (used g col ≡ r.ceiling)
  pub fewest : (col : ℕ → ℕ) → Proper g col → r.ceiling ≤ used g col
  pub some_block : (K : ℕ → Bool) × Block g x.climbs K r.block
  pub block : (K : ℕ → Bool) (b : ℕ) → Block g x.climbs K b → CliqueOf g K b × (b ≡ r.block)
  pub largest : (K : ℕ → Bool) → Clique g K → count K g.size ≤ r.block

-- some proper assignment uses as many drives as some clash set has cartridges
pub record Meets (g : Graph) : Type 0 where
  pub plan : ℕ → ℕ
  pub assignment : Assignment g plan
  pub set : ℕ → Bool
  pub clique : Clique g set
  pub equal : used g plan ≡ count set g.size

-- what a proved report says: it is the best, and block and ceiling are equal exactly when a clash set and an
-- assignment meet
pub record ProvedRight (g : Graph) (x : Point) (r : Numbers) : Type 0 where
  pub best : Best g x r
  pub meets : r.block ≡ r.ceiling → Meets g
  pub met : Meets g → r.block ≡ r.ceiling

abbrev pub Proves : Graph → Point → Numbers → Type 0
Proves g x r = r.proved ≡ 1 → ProvedRight g x r

-- every proved report that is the one due after a history with the replies due is right
abbrev pub ReportsRight : Type 0
ReportsRight =
    (g : Graph) (h : History) (r : Numbers) → Lawful g → FairHistory g h → Reported (graph_at g (point_at g h)) (point_at g h) r
    → Proves (graph_at g (point_at g h)) (point_at g h) r

-- whether a call is a report
abbrev pub is_report : Call → Bool
is_report (Hide c) = false
is_report (Show c) = false
is_report Order = false
is_report Climb = false
is_report Pull = false
is_report Try = false
is_report PutBack = false
is_report Report = true

-- whether an event is a report or a refused call
abbrev pub quiet : Event → Bool
quiet e = is_report e.call || not (was_taken e.reply)

-- the other events of a list
abbrev pub loud : List Event → List Event
loud [] = []
loud (e ∷ es) = cond (quiet e) (loud es) (e ∷ loud es)

-- every event is a climb
abbrev pub AllClimbs : List Event → Type 0
AllClimbs [] = Unit {0}
AllClimbs (e ∷ es) = (e.call ≡ Climb) × AllClimbs es

-- the events, oldest first, on top of a history
abbrev pub on_top : History → List Event → History
on_top h [] = h
on_top h (e ∷ es) = on_top (e ∷ h) es

-- from the end of the history h on, and reports and refused calls apart: an order that is taken, as many climbs as
-- there are cartridges, a pull, so many tries that say no and one that says yes, and the put back
pub record Course (g : Graph) (h : History) (es : List Event) (noes : ℕ) : Type 0 where
  pub climbs : List Event
  pub all_climbs : AllClimbs climbs
  pub every : length climbs ≡ vertices (graph_at g (point_at g h))
  pub shape : loud es ≡ event Order Done ∷ (climbs ++ (event Pull Done ∷ (replicate noes (event Try (Tried false)) ++ (event Try (Tried true) ∷ event PutBack Done ∷ []))))

-- a course of calls makes the report proved, and the yes comes by try number degeneracy + 2 - block
abbrev pub CoursesProve : Type 0
CoursesProve =
    (g : Graph) (h : History) (es : List Event) (noes : ℕ) (r : Numbers) → Lawful g → FairHistory g (on_top h es) → Course g h es noes
    → Reported (graph_at g (point_at g (on_top h es))) (point_at g (on_top h es)) r
    → (r.proved ≡ 1) × (noes + 1 ≤ r.degeneracy + 2 - r.block)

-- a report of a planner that is not loose has a floor of at most degeneracy + 1
abbrev pub FloorsLow : Type 0
FloorsLow =
    (g : Graph) (h : History) (r : Numbers) → Lawful g → FairHistory g h → Reported (graph_at g (point_at g h)) (point_at g h) r
    → loose (point_at g h).standing ≡ false → r.floor ≤ r.degeneracy + 1

-- a reply that is a proved report is right
abbrev pub Right : Graph → Point → Reply → Type 0
Right g x Done = Unit {0}
Right g x (Refused e) = Unit {0}
Right g x (Remaining n) = Unit {0}
Right g x (Tried won) = Unit {0}
Right g x (Told r) = Proves (graph_at g x) x r

-- and so is every one of a string
abbrev pub RightRun : Graph → History → List Call → List Reply → Type 0
RightRun g h [] rs = Unit {0}
RightRun g h (c ∷ cs) [] = Unit {0}
RightRun g h (c ∷ cs) (r ∷ rs) = Right g (point_at g h) r × RightRun g (event c r ∷ h) cs rs

-- the events of a string, oldest first
abbrev pub events : List Call → List Reply → List Event
events [] rs = []
events (c ∷ cs) [] = []
events (c ∷ cs) (r ∷ rs) = event c r ∷ events cs rs

-- after every course of calls inside a string the report is proved, and the yes came in time
abbrev pub CoursesRight : Graph → List Call → List Reply → Type 0
CoursesRight g cs rs =
    (before es rest : List Event) (noes : ℕ) (r : Numbers) → events cs rs ≡ before ++ (es ++ rest) → Course g (on_top [] before) es noes
    → Reported (graph_at g (point_at g (on_top (on_top [] before) es))) (point_at g (on_top (on_top [] before) es)) r
    → (r.proved ≡ 1) × (noes + 1 ≤ r.degeneracy + 2 - r.block)

-- what a string of calls, made from the opening of a planner on, gives: each call is taken, or refused with its
-- number, and each report has the numbers, as defined at its point; each proved report is right; each course of calls
-- proves the report
pub record Run (g : Graph) (cs : List Call) (rs : List Reply) : Type 0 where
  pub fair : FairRun g [] cs rs
  pub right : RightRun g [] cs rs
  pub courses : CoursesRight g cs rs

-- replies that are due make such a run
abbrev pub RunsRight : Type 0
RunsRight = (g : Graph) (cs : List Call) (rs : List Reply) → Lawful g → FairRun g [] cs rs → Run g cs rs
