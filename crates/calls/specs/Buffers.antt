-- What block and plan leave in the buffers lent to them.
use Rattle.std.specs.Prelude.{◌≡◌, ℕ, zero, suc, ◌+◌, ◌<◌, ◌≤◌, Bool, false, List, [], ◌∷◌, ◌++◌, length, take, drop, Err, MatchBool, Result, MatchResult}
use Rattle.finite.specs.Finite.{members}
use Rattle.graph.specs.declared.refusal.Refusal.{Refusal}
use Rattle.graph.specs.declared.refusal.Refusal.TheVariants.{OutOfTurn, ShortBuffer}
use Rattle.graph.specs.Graph.{Graph, held}
use Rattle.calls.specs.declared.row.Row.{Row}
use Rattle.calls.specs.declared.standing.Operation.TheVariants as operation
use Rattle.calls.specs.Table.{takes}
use Rattle.calls.specs.Points.{Point}
use Rattle.calls.specs.Parts.{Block, BlockSize, PlanAt}

abbrev pub row : ℕ → ℕ → Row
row c d = record { cartridge = c; drive = d }

-- one row for each number below n
unfoldable pub rows : (ℕ → ℕ) → ℕ → List Row
rows col zero = []
rows col (suc n) = rows col n ++ (row n (col n) ∷ [])

-- the cartridges of a block, rising, at the front of the buffer, or a buffer too short for them
pub record BlockAnswer (g : Graph) (x : Point) (before after : List ℕ) (r : Result ℕ Refusal) : Type 0 where
  pub size : ℕ
  pub set : ℕ → Bool
  pub block : Block g x.climbs set size
  pub cases : MatchResult r (λ n. (n ≡ size) × (size ≤ length after) × (take size after ≡ members set g.size) × (drop size after ≡ drop size before)) (λ e. (e ≡ ShortBuffer) × (length before < size) × (after ≡ before))

-- how a block is told: first of all the standing has to take it
abbrev pub BlockTold : Graph → Point → List ℕ → List ℕ → Result ℕ Refusal → Type 0
BlockTold g x before after r =
    MatchBool (takes x.standing operation.Block) (BlockAnswer g x before after r) ((r ≡ Err OutOfTurn) × (after ≡ before))

-- one row for each number at the front of the buffer, drive 0 where it is not held, or a buffer too short for them
pub record PlanAnswer (g : Graph) (x : Point) (before after : List Row) (r : Result (Unit {0}) Refusal) : Type 0 where
  pub size : ℕ
  pub block : BlockSize g x.climbs size
  pub plan : ℕ → ℕ
  pub is_plan : PlanAt g x.standing x.climbs (size + x.noes) plan
  pub others : (c : ℕ) → c < g.size → held g c ≡ false → plan c ≡ 0
  pub cases : MatchResult r (λ _. (g.size ≤ length after) × (take g.size after ≡ rows plan g.size) × (drop g.size after ≡ drop g.size before)) (λ e. (e ≡ ShortBuffer) × (length before < g.size) × (after ≡ before))

-- how a plan is told: first of all the standing has to take it
abbrev pub PlanTold : Graph → Point → List Row → List Row → Result (Unit {0}) Refusal → Type 0
PlanTold g x before after r =
    MatchBool (takes x.standing operation.Plan) (PlanAnswer g x before after r) ((r ≡ Err OutOfTurn) × (after ≡ before))
