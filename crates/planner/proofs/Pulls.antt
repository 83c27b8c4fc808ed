-- What pull, try, put back and report leave of a planner that a history explains.
use Rattle.std.proofs.Common.{◌≡◌, ℕ, ◌+◌, Bool, true, cond, ◌∷◌, Ok, Err, Result, sym, refl, ap, ◌∙◌, subst, MatchResult}
use Rattle.std.proofs.lemmas.Bool.{false≢true}
use Rattle.graph.specs.declared.Source.{Ghosts}
use Rattle.graph.specs.declared.refusal.Refusal.{Refusal}
use Rattle.graph.specs.Graph.{Graph, Lawful}
use Rattle.graph.specs.Hiding.{without, marked}
use Rattle.graph.proofs.Hiding.{lawful_without}
use Rattle.calls.specs.declared.standing.Standing.{Standing}
use Rattle.calls.specs.declared.standing.Standing.TheVariants.{Loose, Ordered, Climbed, Pulled, Won, Closed}
use Rattle.calls.specs.declared.standing.Operation.TheVariants as operation
use Rattle.calls.specs.declared.call.Call.TheVariants.{Pull, Try, PutBack, Report as Reporting}
use Rattle.calls.specs.declared.call.Reply.TheVariants.{Done, Tried, Told}
use Rattle.calls.specs.declared.call.Report.{Report}
use Rattle.calls.specs.Table.{takes, put_back_to}
use Rattle.calls.specs.Points.{History, Point, event, graph_at, point_at}
use Rattle.calls.specs.Fair.{Fair, PullAnswer, TryAnswer, Reported, reply_of}
use Rattle.calls.specs.Laws.{Proves}
use Rattle.progress.specs.declared.state.Progress.{Progress}
use Rattle.progress.specs.Holds.{Holds, ToldRight}
use Rattle.runs.proofs.Reports.{reports_right}
use Rattle.planner.specs.declared.planner.Planner.{Planner}
use Rattle.planner.specs.Explains.{Explains}
use Rattle.planner.proofs.Steps.{layer_graph, fair_taken}

takes_pull : (s : Standing) → takes s operation.Pull ≡ true → s ≡ Climbed
takes_pull Loose e = absurd (false≢true e)
takes_pull Ordered e = absurd (false≢true e)
takes_pull Climbed e = refl
takes_pull Pulled e = absurd (false≢true e)
takes_pull Won e = absurd (false≢true e)
takes_pull Closed e = absurd (false≢true e)

takes_try : (s : Standing) → takes s operation.Try ≡ true → s ≡ Pulled
takes_try Loose e = absurd (false≢true e)
takes_try Ordered e = absurd (false≢true e)
takes_try Climbed e = absurd (false≢true e)
takes_try Pulled e = refl
takes_try Won e = absurd (false≢true e)
takes_try Closed e = absurd (false≢true e)

takes_report : (s : Standing) → takes s operation.Report ≡ true
takes_report Loose = refl
takes_report Ordered = refl
takes_report Climbed = refl
takes_report Pulled = refl
takes_report Won = refl
takes_report Closed = refl

module _ {S B : Type 0} {gs : Ghosts S} (graph : S → Graph) (g : Graph) (h : History) (p : Planner S B gs) (x : Explains graph g h p) where
  pub pulls : (r : Result (Unit {0}) Refusal) (q : Progress) → takes p.progress.standing operation.Pull ≡ true → ((y : Point) → Holds (without (graph p.layer.below) (marked p.layer.hidden)) Climbed y.climbs y.noes p.progress → PullAnswer (without (graph p.layer.below) (marked p.layer.hidden)) y (reply_of r) × MatchResult r (λ _. Holds (without (graph p.layer.below) (marked p.layer.hidden)) Pulled y.climbs y.noes q) (λ _. q ≡ p.progress)) → Fair g (point_at g h) Pull (reply_of r) × Explains graph g (event Pull (reply_of r) ∷ h) (record { layer = p.layer; bound = p.bound; progress = q })
  pulls r q t a =
      let y = point_at g h in
      let s = sym x.holds.standing ∙ takes_pull p.progress.standing t in
      let b = subst (λ G. (y : Point) → Holds G Climbed y.climbs y.noes p.progress → PullAnswer G y (reply_of r) × MatchResult r (λ _. Holds G Pulled y.climbs y.noes q) (λ _. q ≡ p.progress)) (layer_graph graph g h p x) a y (subst (λ v. Holds (graph_at g y) v y.climbs y.noes p.progress) s x.holds) in
      let f = fair_taken graph g h p x Pull (reply_of r) t b.0 in
      (f, pulls_to r q f b.1)
    where
      pulls_to : (r : Result (Unit {0}) Refusal) (q : Progress) → Fair g (point_at g h) Pull (reply_of r) → MatchResult r (λ _. Holds (graph_at g (point_at g h)) Pulled (point_at g h).climbs (point_at g h).noes q) (λ _. q ≡ p.progress) → Explains graph g (event Pull (reply_of r) ∷ h) (record { layer = p.layer; bound = p.bound; progress = q })
      pulls_to (Ok u) q f b = record { below = x.below; hidden = x.hidden; fair = (f, x.fair); holds = b }
      pulls_to (Err e) q f b =
          record { below = x.below; hidden = x.hidden; fair = (f, x.fair); holds = subst (Holds _ _ _ _) (sym b) x.holds }

  lawful_at : Lawful (graph p.layer.below) → Lawful (graph_at g (point_at g h))
  lawful_at law = lawful_without g (point_at g h).hidden (subst Lawful x.below law)

  pub tries : (r : Bool) (q : Progress) → Lawful (graph p.layer.below) → takes p.progress.standing operation.Try ≡ true → ((G : Graph) (y : Point) → Lawful G → Holds G Pulled y.climbs y.noes p.progress → TryAnswer G y (Tried r) × Holds G (cond r Won Pulled) y.climbs (cond r y.noes (y.noes + 1)) q) → Fair g (point_at g h) Try (Tried r) × Explains graph g (event Try (Tried r) ∷ h) (record { layer = p.layer; bound = p.bound; progress = q })
  tries r q law t a =
      let y = point_at g h in
      let s = sym x.holds.standing ∙ takes_try p.progress.standing t in
      let b = a (graph_at g y) y (lawful_at law) (subst (λ v. Holds (graph_at g y) v y.climbs y.noes p.progress) s x.holds) in
      let f = fair_taken graph g h p x Try (Tried r) t b.0 in
      (f, record { below = x.below; hidden = x.hidden; fair = (f, x.fair); holds = b.1 })

  put_back_holds : (s : Standing) (q : Progress) → takes s operation.PutBack ≡ true → (point_at g h).standing ≡ s → ((climbs noes : ℕ) → Holds (graph_at g (point_at g h)) Pulled climbs noes p.progress → Holds (graph_at g (point_at g h)) Climbed climbs noes q) → ((climbs noes : ℕ) → Holds (graph_at g (point_at g h)) Won climbs noes p.progress → Holds (graph_at g (point_at g h)) Closed climbs noes q) → Holds (graph_at g (point_at g h)) (put_back_to s) (point_at g h).climbs (point_at g h).noes q
  put_back_holds Loose q t e a b = absurd (false≢true t)
  put_back_holds Ordered q t e a b = absurd (false≢true t)
  put_back_holds Climbed q t e a b = absurd (false≢true t)
  put_back_holds Pulled q t e a b =
      a (point_at g h).climbs (point_at g h).noes (subst (λ v. Holds (graph_at g (point_at g h)) v (point_at g h).climbs (point_at g h).noes p.progress) e x.holds)
  put_back_holds Won q t e a b =
      b (point_at g h).climbs (point_at g h).noes (subst (λ v. Holds (graph_at g (point_at g h)) v (point_at g h).climbs (point_at g h).noes p.progress) e x.holds)
  put_back_holds Closed q t e a b = absurd (false≢true t)

  pub puts_back : (q : Progress) → takes p.progress.standing operation.PutBack ≡ true → ((climbs noes : ℕ) → Holds (without (graph p.layer.below) (marked p.layer.hidden)) Pulled climbs noes p.progress → Holds (without (graph p.layer.below) (marked p.layer.hidden)) Climbed climbs noes q) → ((climbs noes : ℕ) → Holds (without (graph p.layer.below) (marked p.layer.hidden)) Won climbs noes p.progress → Holds (without (graph p.layer.below) (marked p.layer.hidden)) Closed climbs noes q) → Fair g (point_at g h) PutBack Done × Explains graph g (event PutBack Done ∷ h) (record { layer = p.layer; bound = p.bound; progress = q })
  puts_back q t a b =
      let e = layer_graph graph g h p x in
      let a' = subst (λ G. (climbs noes : ℕ) → Holds G Pulled climbs noes p.progress → Holds G Climbed climbs noes q) e a in
      let b' = subst (λ G. (climbs noes : ℕ) → Holds G Won climbs noes p.progress → Holds G Closed climbs noes q) e b in
      let f = fair_taken graph g h p x PutBack Done t refl in
      (f, record { below = x.below; hidden = x.hidden; fair = (f, x.fair); holds = put_back_holds (point_at g h).standing q (ap (λ s. takes s operation.PutBack) (sym x.holds.standing) ∙ t) refl a' b' })

  -- a report
  pub reports : (r : Report) → ToldRight p.progress r → Lawful (graph p.layer.below) → Reported (graph_at g (point_at g h)) (point_at g h) r × Proves (graph_at g (point_at g h)) (point_at g h) r
  reports r told law =
      let y = told (graph_at g (point_at g h)) (point_at g h) x.holds in
      (y, reports_right g h r (subst Lawful x.below law) x.fair y)

  pub report_serves : (r : Report) → ToldRight p.progress r → Lawful (graph p.layer.below) → Fair g (point_at g h) Reporting (Told r) × Explains graph g (event Reporting (Told r) ∷ h) p
  report_serves r told law =
      let f = fair_taken graph g h p x Reporting (Told r) (takes_report p.progress.standing) (r, refl, (reports r told law).0) in
      (f, record { below = x.below; hidden = x.hidden; fair = (f, x.fair); holds = x.holds })
