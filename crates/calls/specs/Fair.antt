-- What each call has to answer at a point.
use Rattle.std.specs.Prelude.{◌≡◌, ℕ, ◌+◌, ◌-◌, ◌<◌, ◌≤◌, Bool, cond, ◌⊎◌, List, [], ◌∷◌, Ok, Err, MatchBool, Result, ◌==◌}
use Rattle.finite.specs.Finite.{count}
use Rattle.graph.specs.declared.refusal.Refusal.{Refusal}
use Rattle.graph.specs.declared.refusal.Refusal.TheVariants.{TooDense, TooWide}
use Rattle.graph.specs.Graph.{Graph, vertices}
use Rattle.graph.specs.Colourings.{ColourableIn, used}
use Rattle.graph.specs.Degeneracy.{IsDegeneracy}
use Rattle.graph.specs.Hiding.{hide_answer, show_answer}
use Rattle.order.specs.Order.{Dense}
use Rattle.calls.specs.declared.call.Call.{Call}
use Rattle.calls.specs.declared.call.Call.TheVariants as call
use Rattle.calls.specs.declared.call.Reply.{Reply}
use Rattle.calls.specs.declared.call.Reply.TheVariants.{Done, Refused, Remaining, Tried, Told}
use Rattle.calls.specs.declared.call.Report.{Report}
use Rattle.calls.specs.Table.{standing_number, loose, takes, operation, turned_away}
use Rattle.calls.specs.Points.{History, Point, graph_at, point_at, event}
use Rattle.calls.specs.Parts.{BlockSize, Kernel, PlanAt}

-- the numbers of a loose planner
pub record LooseNumbers (g : Graph) (r : Report) : Type 0 where
  pub degeneracy : r.degeneracy ≡ 0
  pub climbed : r.climbed ≡ 0
  pub block : r.block ≡ 0
  pub floor : r.floor ≡ 0
  pub ceiling : r.ceiling ≡ vertices g
  pub proved : r.proved ≡ 0

-- the numbers of one that is not loose
pub record OrderedNumbers (g : Graph) (x : Point) (r : Report) : Type 0 where
  pub degeneracy : IsDegeneracy g r.degeneracy
  pub climbed : r.climbed ≡ x.climbs
  pub block : BlockSize g x.climbs r.block
  pub floor : r.floor ≡ r.block + x.noes
  pub plan : ℕ → ℕ
  pub is_plan : PlanAt g x.standing x.climbs r.floor plan
  pub ceiling : r.ceiling ≡ used g plan
  pub proved : r.proved ≡ cond (r.floor == r.ceiling) 1 0

-- the eight numbers of a report
pub record Reported (g : Graph) (x : Point) (r : Report) : Type 0 where
  pub standing : r.standing ≡ standing_number x.standing
  pub held : r.held ≡ vertices g
  pub numbers : MatchBool (loose x.standing) (LooseNumbers g r) (OrderedNumbers g x r)

-- the degeneracy is at most 63
pub record SparseEnough (g : Graph) : Type 0 where
  pub number : ℕ
  pub degeneracy : IsDegeneracy g number
  pub few : number ≤ 63

-- how an order is answered: refused where the graph is too dense
abbrev pub OrderAnswer : Graph → Reply → Type 0
OrderAnswer g r = ((r ≡ Refused TooDense) × Dense g) ⊎ ((r ≡ Done) × SparseEnough g)

-- how a pull is answered: refused where the kernel has more than 256 vertices
pub record PullAnswer (g : Graph) (x : Point) (r : Reply) : Type 0 where
  pub size : ℕ
  pub kernel : ℕ → Bool
  pub is_kernel : Kernel g x.climbs size kernel
  pub answer : ((r ≡ Refused TooWide) × (256 < count kernel g.size)) ⊎ ((r ≡ Done) × (count kernel g.size ≤ 256))

-- how a try is answered: yes exactly when the kernel has a proper assignment in the drives 1 to floor
pub record TryAnswer (g : Graph) (x : Point) (r : Reply) : Type 0 where
  pub size : ℕ
  pub kernel : ℕ → Bool
  pub is_kernel : Kernel g x.climbs size kernel
  pub yes : Bool
  pub answer : r ≡ Tried yes
  pub test : MatchBool yes (ColourableIn g kernel (size + x.noes)) (ColourableIn g kernel (size + x.noes) → ⊥)

-- a result without a value, as a reply
abbrev pub reply_of : Result (Unit {0}) Refusal → Reply
reply_of (Ok u) = Done
reply_of (Err e) = Refused e

-- what a climb answers, as a reply
abbrev pub remaining : Result ℕ Refusal → Reply
remaining (Ok n) = Remaining n
remaining (Err e) = Refused e

-- what a try answers, as a reply
abbrev pub tried : Result Bool Refusal → Reply
tried (Ok won) = Tried won
tried (Err e) = Refused e

-- how a call is answered where the standing takes it, over the graph of that point
abbrev pub Answers : Graph → Point → Call → Reply → Type 0
Answers g x (call.Hide c) r = r ≡ reply_of (hide_answer g c)
Answers g x (call.Show c) r = r ≡ reply_of (show_answer g x.hidden c)
Answers g x call.Order r = OrderAnswer g r
Answers g x call.Climb r = r ≡ Remaining (vertices g - (x.climbs + 1))
Answers g x call.Pull r = PullAnswer g x r
Answers g x call.Try r = TryAnswer g x r
Answers g x call.PutBack r = r ≡ Done
Answers g x call.Report r = (numbers : Report) × (r ≡ Told numbers) × Reported g x numbers

-- how a call is answered at a point: first of all the standing has to take it
abbrev pub Fair : Graph → Point → Call → Reply → Type 0
Fair g x c r =
    MatchBool (takes x.standing (operation c)) (Answers (graph_at g x) x c r) (r ≡ Refused (turned_away (operation c)))

-- every reply of a history is the one due at its point
abbrev pub FairHistory : Graph → History → Type 0
FairHistory g [] = Unit {0}
FairHistory g (e ∷ h) = Fair g (point_at g h) e.call e.reply × FairHistory g h

-- each call of a string, made one after another from the end of a history on, has the reply due at its point
abbrev pub FairRun : Graph → History → List Call → List Reply → Type 0
FairRun g h [] [] = Unit {0}
FairRun g h [] (r ∷ rs) = ⊥
FairRun g h (c ∷ cs) [] = ⊥
FairRun g h (c ∷ cs) (r ∷ rs) = Fair g (point_at g h) c r × FairRun g (event c r ∷ h) cs rs

-- the history after them
abbrev pub after : History → List Call → List Reply → History
after h [] rs = h
after h (c ∷ cs) [] = h
after h (c ∷ cs) (r ∷ rs) = after (event c r ∷ h) cs rs
