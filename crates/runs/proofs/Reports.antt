-- What a report says that is due at a sound point.
use Rattle.std.proofs.Common.{◌≡◌, ℕ, ◌+◌, ◌≤◌, Bool, false, eqb, MatchBool, sym, refl, ◌∙◌, subst, inl, inr, arith}
use Rattle.std.proofs.lemmas.Bool.{cases_Bool, cases_lt, eqb-true, cond-false}
use Rattle.finite.specs.Finite.{count}
use Rattle.graph.specs.Graph.{Graph, Lawful}
use Rattle.graph.specs.Cliques.{Clique}
use Rattle.graph.specs.Colourings.{Proper, used}
use Rattle.graph.proofs.Hiding.{lawful_without}
use Rattle.colourings.proofs.Coloured.{coloured_proper}
use Rattle.colourings.proofs.Used.{used_most, clique_used}
use Rattle.peels.proofs.Renumber.{used_suffice}
use Rattle.calls.specs.declared.standing.Standing.{Standing}
use Rattle.calls.specs.declared.standing.Standing.TheVariants.{Loose, Ordered, Climbed, Pulled, Won, Closed}
use Rattle.calls.specs.declared.call.Report.{Report as Numbers}
use Rattle.calls.specs.Table.{loose, full}
use Rattle.calls.specs.Points.{Point, graph_at, point_at}
use Rattle.calls.specs.Parts.{BlockSize, Assignment, LastPlan, PlanAt}
use Rattle.calls.specs.Fair.{LooseNumbers, OrderedNumbers, Reported}
use Rattle.calls.specs.Laws.{Best, Meets, ProvedRight, Proves, ReportsRight, FloorsLow}
use Rattle.runs.proofs.Blocks.{block_clique, block_one, block_largest, degeneracy_enough, first_assigns, first_same, last_coloured}
use Rattle.runs.proofs.Sound.{Sound, sound}

-- the numbers of a report of a planner that is not loose
pub ordered_numbers : (g : Graph) (x : Point) (r : Numbers) → loose x.standing ≡ false → Reported g x r → OrderedNumbers g x r
ordered_numbers g x r e w = subst (λ (b : Bool). MatchBool b (LooseNumbers g r) (OrderedNumbers g x r)) e w.numbers

-- a proper colouring uses no fewer colours than the floor
pub floor_used : (g : Graph) (s : Standing) (j n b : ℕ) (col : ℕ → ℕ) → Sound g s j n → loose s ≡ false → BlockSize g j b → Proper g col → b + n ≤ used g col
floor_used g s j n b col h firm w p =
    elim (cases_lt (used g col) (b + n)) [
      | inl l ↦ absurd (h.floor firm (used g col) b w l (used_suffice g col p))
      | inr l ↦ l
    ]

-- the plan after a yes uses as many as the floor
pub last_used : (g : Graph) (j n b k : ℕ) (col : ℕ → ℕ) → Lawful g → Sound g Closed j n → BlockSize g j b → k ≡ b + n → LastPlan g j k col → used g col ≡ k
last_used g j n b k col lw h w e p =
    let c = last_coloured g j b k col lw w (omega arith) p in
    let u = used_most g k col c in
    let v = floor_used g Closed j n b col h refl w (coloured_proper g k col c) in
    omega arith

-- the plan at a point is a proper assignment
pub plan_assigns : (g : Graph) (s : Standing) (j b k : ℕ) (col : ℕ → ℕ) → Lawful g → BlockSize g j b → b ≤ k → PlanAt g s j k col → Assignment g col
plan_assigns g Loose j b k col lw w l p = absurd p
plan_assigns g Ordered j b k col lw w l p = first_assigns g col lw p
plan_assigns g Climbed j b k col lw w l p = first_assigns g col lw p
plan_assigns g Pulled j b k col lw w l p = first_assigns g col lw p
plan_assigns g Won j b k col lw w l p = first_assigns g col lw p
plan_assigns g Closed j b k col lw w l p =
    let c = last_coloured g j b k col lw w l p in
    record { low = c.low; proper = coloured_proper g k col c }

-- and all plans there use as many drives
pub plan_same : (g : Graph) (s : Standing) (j n b k : ℕ) (col new : ℕ → ℕ) → Lawful g → Sound g s j n → BlockSize g j b → k ≡ b + n → PlanAt g s j k col → PlanAt g s j k new → used g col ≡ used g new
plan_same g Loose j n b k col new lw h w e p q = absurd p
plan_same g Ordered j n b k col new lw h w e p q = first_same g col new lw p q
plan_same g Climbed j n b k col new lw h w e p q = first_same g col new lw p q
plan_same g Pulled j n b k col new lw h w e p q = first_same g col new lw p q
plan_same g Won j n b k col new lw h w e p q = first_same g col new lw p q
plan_same g Closed j n b k col new lw h w e p q = last_used g j n b k col lw h w e p ∙ sym (last_used g j n b k new lw h w e q)

-- a proved report: floor and ceiling are equal
module _ (g : Graph) (x : Point) (r : Numbers) (lw : Lawful g) (h : Sound g x.standing x.climbs x.noes) (firm : loose x.standing ≡ false) (o : OrderedNumbers g x r) (meet : r.floor ≡ r.ceiling) where
  assigns : (col : ℕ → ℕ) → PlanAt g x.standing x.climbs r.floor col → Assignment g col
  assigns col p = plan_assigns g x.standing x.climbs r.block r.floor col lw o.block (omega (arith, o.floor)) p

  fewest : (col : ℕ → ℕ) → Proper g col → r.ceiling ≤ used g col
  fewest col p =
      let l = floor_used g x.standing x.climbs x.noes r.block col h firm o.block p in
      omega (arith, o.floor)

  largest : (K : ℕ → Bool) → Clique g K → count K g.size ≤ r.block
  largest K k =
      elim (cases_Bool (full x.standing)) [
        | inl y ↦ block_largest g x.climbs r.block o.block (h.all y) K k
        | inr z ↦ let l = clique_used g K (count K g.size) o.plan (record { clique = k; many = refl }) (assigns o.plan o.is_plan).proper in
            omega (arith, o.floor, o.ceiling, h.fresh z)
      ]

  best : Best g x r
  best = record {
    some_plan = (o.plan, o.is_plan);
    plan = λ col p. (assigns col p, plan_same g x.standing x.climbs x.noes r.block r.floor col o.plan lw h o.block o.floor p o.is_plan ∙ sym o.ceiling);
    fewest = fewest;
    some_block = o.block;
    block = λ K b w. (block_clique g x.climbs K b w, block_one g x.climbs b r.block (K, w) o.block);
    largest = largest;
  }

  meets : r.block ≡ r.ceiling → Meets g
  meets e =
      let c = block_clique g x.climbs o.block.0 r.block o.block.1 in
      record {
        plan = o.plan;
        assignment = assigns o.plan o.is_plan;
        set = o.block.0;
        clique = c.clique;
        equal = sym o.ceiling ∙ sym e ∙ sym c.many;
      }

  met : Meets g → r.block ≡ r.ceiling
  met m =
      let a = fewest m.plan m.assignment.proper in
      let b = largest m.set m.clique in
      omega (arith, o.floor, m.equal)

  proved_right : ProvedRight g x r
  proved_right = record { best = best; meets = meets; met = met }

-- a report that is due at a sound point
pub report_right : (g : Graph) (x : Point) (r : Numbers) → Lawful g → Sound g x.standing x.climbs x.noes → Reported g x r → Proves g x r
report_right g x r lw h w one =
    elim (cases_Bool (loose x.standing)) [
      | inl y ↦ let l = subst (λ (b : Bool). MatchBool b (LooseNumbers g r) (OrderedNumbers g x r)) y w.numbers in
          absurd (omega (arith, l.proved))
      | inr z ↦ let o = ordered_numbers g x r z w in
          proved_right g x r lw h z o (equal o)
    ]
  where
    equal : OrderedNumbers g x r → r.floor ≡ r.ceiling
    equal o =
        elim (cases_Bool (eqb r.floor r.ceiling)) [
          | inl y ↦ eqb-true r.floor r.ceiling y
          | inr z ↦ absurd (let e : r.proved ≡ 0 = o.proved ∙ cond-false (eqb r.floor r.ceiling) 1 0 z in omega arith)
        ]

pub reports_right : ReportsRight
reports_right g h r lw f w =
    let x = point_at g h in report_right (graph_at g x) x r (lawful_without g x.hidden lw) (sound g h f) w

-- the floor of a planner that is not loose
pub floor_low : (g : Graph) (x : Point) (r : Numbers) → Lawful g → Sound g x.standing x.climbs x.noes → Reported g x r → loose x.standing ≡ false → r.floor ≤ r.degeneracy + 1
floor_low g x r lw h w firm =
    let o = ordered_numbers g x r firm w in
    let d = r.degeneracy + 1 in
    elim (cases_lt d r.floor) [
      | inl l ↦ absurd (h.floor firm d r.block o.block (omega (arith, o.floor)) (degeneracy_enough g r.degeneracy lw o.degeneracy))
      | inr l ↦ l
    ]

pub floors_low : FloorsLow
floors_low g h r lw f w firm =
    let x = point_at g h in floor_low (graph_at g x) x r (lawful_without g x.hidden lw) (sound g h f) w firm
