-- Whole strings of calls.
use Rattle.std.proofs.Common.{◌≡◌, ◌+◌, ◌-◌, Bool, true, false, List, [], ◌∷◌, ◌++◌, Ok, Err, MatchBool, Result, sym, refl, ap, ◌∙◌, subst, inl, inr}
use Rattle.std.proofs.lemmas.Bool.{false≢true}
use Rattle.graph.specs.declared.refusal.Refusal.{Refusal}
use Rattle.graph.specs.declared.refusal.Refusal.TheVariants.{TooDense, TooWide}
use Rattle.graph.specs.Graph.{Graph, Lawful, vertices}
use Rattle.graph.specs.Hiding.{hide_answer, show_answer}
use Rattle.graph.proofs.Hiding.{lawful_without}
use Rattle.calls.specs.declared.call.Call.{Call}
use Rattle.calls.specs.declared.call.Call.TheVariants.{Hide, Show, Order, Climb, Pull, Try, PutBack, Report}
use Rattle.calls.specs.declared.call.Reply.{Reply}
use Rattle.calls.specs.declared.call.Reply.TheVariants.{Done, Refused, Remaining, Tried, Told}
use Rattle.calls.specs.declared.call.Report.{Report as Numbers}
use Rattle.calls.specs.Table.{takes, operation, turned_away}
use Rattle.calls.specs.Points.{Event, History, Point, event, graph_at, point_at}
use Rattle.calls.specs.Fair.{Answers, Fair, FairHistory, FairRun, Reported, reply_of}
use Rattle.calls.specs.Laws.{CoursesRight, Right, RightRun, RunsRight, events, on_top}
use Rattle.runs.proofs.Sound.{SoundAt, sound}
use Rattle.runs.proofs.Reports.{report_right}
use Rattle.runs.proofs.Courses.{courses_prove}

-- ---- only a report is answered with numbers

abbrev is_told : Reply → Bool
is_told Done = false
is_told (Refused e) = false
is_told (Remaining n) = false
is_told (Tried won) = false
is_told (Told r) = true

not_told : (o : Result (Unit {0}) Refusal) → is_told (reply_of o) ≡ false
not_told (Ok u) = refl
not_told (Err e) = refl

other : (r : Numbers) (w : Reply) → Told r ≡ w → is_told w ≡ false → ⊥
other r w e f = false≢true (sym f ∙ ap is_told (sym e))

module _ (g : Graph) (x : Point) (r : Numbers) where
  told_answer : (c : Call) → Answers (graph_at g x) x c (Told r) → Reported (graph_at g x) x r
  told_answer (Hide k) a =
      absurd (other r (reply_of (hide_answer (graph_at g x) k)) a (not_told (hide_answer (graph_at g x) k)))
  told_answer (Show k) a =
      absurd (other r (reply_of (show_answer (graph_at g x) x.hidden k)) a (not_told (show_answer (graph_at g x) x.hidden k)))
  told_answer Order a =
      absurd (elim a [ inl w ↦ other r (Refused TooDense) w.0 refl | inr w ↦ other r Done w.0 refl ])
  told_answer Climb a = absurd (other r (Remaining (vertices (graph_at g x) - (x.climbs + 1))) a refl)
  told_answer Pull a =
      absurd (elim a.answer [ inl w ↦ other r (Refused TooWide) w.0 refl | inr w ↦ other r Done w.0 refl ])
  told_answer Try a = absurd (other r (Tried a.yes) a.answer refl)
  told_answer PutBack a = absurd (other r Done a refl)
  told_answer Report a = let e : r ≡ a.0 = cc in subst (Reported (graph_at g x) x) (sym e) a.2

  pub told_right : (c : Call) → Fair g x c (Told r) → Reported (graph_at g x) x r
  told_right c = go (takes x.standing (operation c))
    where
      go : (b : Bool) → MatchBool b (Answers (graph_at g x) x c (Told r)) (Told r ≡ Refused (turned_away (operation c))) → Reported (graph_at g x) x r
      go true a = told_answer c a
      go false a = absurd (other r (Refused (turned_away (operation c))) a refl)

pub reply_right : (g : Graph) (x : Point) (c : Call) (r : Reply) → Lawful g → SoundAt g x → Fair g x c r → Right g x r
reply_right g x c Done lw h f = tt
reply_right g x c (Refused e) lw h f = tt
reply_right g x c (Remaining n) lw h f = tt
reply_right g x c (Tried won) lw h f = tt
reply_right g x c (Told r) lw h f =
    report_right (graph_at g x) x r (lawful_without g x.hidden lw) h (told_right g x r c f)

-- ---- histories

pub right_run : (g : Graph) (h : History) (cs : List Call) (rs : List Reply) → Lawful g → FairHistory g h → FairRun g h cs rs → RightRun g h cs rs
right_run g h [] rs lw fh f = tt
right_run g h (c ∷ cs) [] lw fh f = tt
right_run g h (c ∷ cs) (r ∷ rs) lw fh f = (
  reply_right g (point_at g h) c r lw (sound g h fh) f.0,
  right_run g (event c r ∷ h) cs rs lw (f.0, fh) f.1,
)

-- the history after a string
pub fair_after : (g : Graph) (h : History) (cs : List Call) (rs : List Reply) → FairHistory g h → FairRun g h cs rs → FairHistory g (on_top h (events cs rs))
fair_after g h [] rs fh f = fh
fair_after g h (c ∷ cs) [] fh f = fh
fair_after g h (c ∷ cs) (r ∷ rs) fh f = fair_after g (event c r ∷ h) cs rs (f.0, fh) f.1

-- and before its last events
pub fair_before : (g : Graph) (h : History) (es : List Event) → FairHistory g (on_top h es) → FairHistory g h
fair_before g h [] f = f
fair_before g h (e ∷ es) f = (fair_before g (e ∷ h) es f).1

pub on_top_append : (h : History) (es fs : List Event) → on_top h (es ++ fs) ≡ on_top (on_top h es) fs
on_top_append h [] fs = refl
on_top_append h (e ∷ es) fs = on_top_append (e ∷ h) es fs

pub courses_right : (g : Graph) (cs : List Call) (rs : List Reply) → Lawful g → FairRun g [] cs rs → CoursesRight g cs rs
courses_right g cs rs lw f before es rest noes r e =
    let h = on_top [] before in
    let same = ap (on_top []) e ∙ on_top_append [] before (es ++ rest) ∙ on_top_append h es rest in
    courses_prove g h es noes r lw (fair_before g (on_top h es) rest (subst (FairHistory g) same (fair_after g [] cs rs tt f)))

pub runs_right : RunsRight
runs_right g cs rs lw f =
    record { fair = f; right = right_run g [] cs rs lw tt f; courses = courses_right g cs rs lw f }
