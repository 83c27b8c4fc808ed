-- A planner over nothing can be ordered and pulled.
use Rattle.std.proofs.Common.{◌≡◌, ℕ, false, ◌&&◌, [], ◌∷◌, Ok, Err, Result, refl, ap, inl, inr, arith}
use Rattle.std.proofs.lemmas.Bool.{false≢true, le-ltb}
use Rattle.std.proofs.lemmas.Bool.Decides.{when_true}
use Rattle.finite.specs.Finite.{count}
use Rattle.graph.specs.declared.refusal.Refusal.{Refusal}
use Rattle.graph.specs.Graph.{held, vertices}
use Rattle.order.specs.Order.{Dense}
use Rattle.degeneracy.proofs.Orders.{degeneracy_one, degeneracy_none}
use Rattle.graph.specs.declared.Source.{Ghosts}
use Rattle.bounds.specs.declared.by_size.SizeBound.{SizeBound}
use Rattle.calls.specs.declared.standing.Standing.TheVariants.{Climbed, Pulled}
use Rattle.calls.specs.declared.standing.Operation.TheVariants as operation
use Rattle.calls.specs.declared.call.Call.TheVariants.{Order, Pull, PutBack}
use Rattle.calls.specs.declared.call.Reply.{Reply}
use Rattle.calls.specs.declared.call.Reply.TheVariants.{Done, Refused}
use Rattle.calls.specs.Table.{takes, put_back_to}
use Rattle.calls.specs.Points.{Point, event, graph_at, point_at, start, was_taken}
use Rattle.calls.specs.Fair.{PullAnswer, reply_of}
use Rattle.planner.specs.declared.planner.Planner.{Planner}
use Rattle.planner.specs.Explains.{Explains, Serves}
use Rattle.running.specs.declared.nothing.Nothing.{Nothing}
use Rattle.running.specs.Nothing.{nothing}
use Rattle.running.specs.Spares.{SpareAt}

-- a refusal is not done
pub refused_done : (e : Refusal) → ◌≡◌ {A = Reply} (Refused e) Done → ⊥
refused_done e p = false≢true (ap was_taken p)

-- nothing is held
not_dense : (x : Point) → Dense (graph_at nothing x) → ⊥
not_dense x d =
    let e = degeneracy_one (graph_at nothing x) 0 d.number (degeneracy_none (graph_at nothing x) (λ c. none c)) d.degeneracy in
    let l = d.above in omega arith
  where
    none : (c : ℕ) → held (graph_at nothing x) c ≡ false
    none c = ap (λ b. b && false) (le-ltb c 0 (omega arith))

pub spare_opened : {ns : Ghosts Nothing} (r : Result (Unit {0}) Refusal) (p q : Planner Nothing SizeBound ns) → Explains (λ _. nothing) nothing [] p → Serves (λ _. nothing) p Order (reply_of r) q → SpareAt Climbed q
unfolding vertices count
spare_opened (Ok u) p q x s = record { history = event Order Done ∷ []; explains = (s nothing [] x).1; stands = refl }
spare_opened (Err e) p q x s =
    elim (s nothing [] x).0 [
      | inl y ↦ absurd (not_dense start y.1)
      | inr y ↦ absurd (refused_done e y.0)
    ]

-- where it is climbed, a pull is taken
pub spare_pulled : {ns : Ghosts Nothing} (e : Refusal) (p q : Planner Nothing SizeBound ns) → SpareAt Climbed p → Serves (λ _. nothing) p Pull (Refused e) q → ⊥
unfolding count
spare_pulled e p q x s =
    let f = (s nothing x.history x.explains).0 in
    let y = when_true _ _ (ap (λ t. takes t operation.Pull) x.stands) f in
    wide y
  where
    wide : PullAnswer (graph_at nothing (point_at nothing x.history)) (point_at nothing x.history) (Refused e) → ⊥
    wide y =
        elim y.answer [
          | inl z ↦ absurd (omega (arith, z.1))
          | inr z ↦ absurd (refused_done e z.0)
        ]

pub spare_pull : {ns : Ghosts Nothing} (p q : Planner Nothing SizeBound ns) → SpareAt Climbed p → Serves (λ _. nothing) p Pull Done q → SpareAt Pulled q
spare_pull p q x s =
    record { history = event Pull Done ∷ x.history; explains = (s nothing x.history x.explains).1; stands = refl }

-- where it is pulled, a put back is taken
pub spare_refused : {ns : Ghosts Nothing} (e : Refusal) (p q : Planner Nothing SizeBound ns) → SpareAt Pulled p → Serves (λ _. nothing) p PutBack (Refused e) q → ⊥
spare_refused e p q x s =
    let f = (s nothing x.history x.explains).0 in
    refused_done e (when_true _ _ (ap (λ t. takes t operation.PutBack) x.stands) f)

pub spare_put_back : {ns : Ghosts Nothing} (p q : Planner Nothing SizeBound ns) → SpareAt Pulled p → Serves (λ _. nothing) p PutBack Done q → SpareAt Climbed q
spare_put_back p q x s =
    record { history = event PutBack Done ∷ x.history; explains = (s nothing x.history x.explains).1; stands = ap put_back_to x.stands }
