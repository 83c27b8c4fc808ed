-- What each step leaves of what a planner has found.
use Rattle.std.proofs.Common.{◌≡◌, ℕ, ◌+◌, ◌<◌, ◌≤◌, Bool, true, false, cond, eqb, List, [], length, take, sym, refl, ap, ◌∙◌, subst, inl, inr, arith, eq-eqb}
use Rattle.std.proofs.Math.Seq.{take-length}
use Rattle.std.proofs.lemmas.List.{length-take-le, take-take}
use Rattle.std.proofs.lemmas.Bool.{false≢true, eqb-true, eqb-false}
use Rattle.graph.specs.Graph.{Graph, vertices}
use Rattle.graph.specs.Colourings.{Colourable, used}
use Rattle.graph.specs.Degeneracy.{IsDegeneracy}
use Rattle.colourings.proofs.Coloured.{coloured_proper}
use Rattle.colourings.proofs.Used.{used_most, clique_used}
use Rattle.degeneracy.specs.Order.{IsOrder, IsPeak}
use Rattle.degeneracy.proofs.Orders.{peak_degeneracy}
use Rattle.climbing.specs.Climbs.{BlockIn, Climbs, last}
use Rattle.climbing.proofs.Later.{order_once}
use Rattle.climbing.proofs.Blocks.{climb_start}
use Rattle.graph.specs.declared.refusal.Refusal.{Refusal}
use Rattle.graph.specs.declared.refusal.Refusal.TheVariants.{TooDense}
use Rattle.order.specs.Order.{Dense}
use Rattle.plan.specs.Plan.{PlannedIn, PlanRefused}
use Rattle.calls.specs.declared.standing.Standing.{Standing}
use Rattle.calls.specs.declared.standing.Standing.TheVariants.{Loose, Ordered, Climbed, Pulled, Won, Closed}
use Rattle.calls.specs.declared.call.Report.{Report}
use Rattle.calls.specs.Table.{standing_number, loose}
use Rattle.calls.specs.Points.{Point, climbed_to}
use Rattle.calls.specs.Parts.{FirstPlan, PlanAt, BlockSize}
use Rattle.calls.specs.Fair.{Reported, OrderedNumbers}
use Rattle.progress.specs.declared.state.Progress.{Progress}
use Rattle.progress.specs.Holds.{Holds, Found, paint}

-- two tests are one where each follows from the other
both : (a b : Bool) → (a ≡ true → b ≡ true) → (b ≡ true → a ≡ true) → a ≡ b
both true b to from = sym (to refl)
both false true to from = from refl
both false false to from = refl

-- no number of colours below the size of a clique suffices
pub below_block : (g : Graph) (s : ℕ → Bool) (block : List ℕ) (b : ℕ) → BlockIn g s block b → (k : ℕ) → k < b → Colourable g k → ⊥
below_block g s block b x k l y =
    let u = used_most g k y.0 y.1 in
    let v = clique_used g x.set b y.0 (record { clique = x.largest.clique; many = x.largest.many }) (coloured_proper g k y.0 y.1) in
    absurd (omega arith)

pub unfound : (g : Graph) (p : Progress) → p.standing ≡ Loose → p.held ≡ vertices g → p.climbed ≡ 0 → p.degeneracy ≡ 0 → (length p.block.items) ≡ 0 → p.floor ≡ 0 → p.ceiling ≡ p.held → Holds g Loose 0 0 p
unfound g p s h c d b f e = record {
  standing = s;
  held = h;
  climbed = c;
  numbers = record { no_climbs = refl; no_noes = refl; degeneracy = d; block = b; floor = f; ceiling = e };
  kernel = λ x. absurd (false≢true x);
  won = λ x. absurd (false≢true x);
}

-- the first plan is there, and so many vertices are climbed
pub record Climbing (g : Graph) (climbs noes : ℕ) (p : Progress) : Type 0 where
  pub held : p.held ≡ vertices g
  pub climbed : p.climbed ≡ climbs
  pub fits : length p.order.items ≡ p.held
  pub order : IsOrder g p.order.items
  pub peak : IsPeak g p.order.items p.degeneracy
  pub sparse : p.degeneracy ≤ 63
  pub block : BlockIn g (last p.order.items climbs) p.block.items (length p.block.items)
  pub floor : p.floor ≡ (length p.block.items) + noes
  pub below : (k : ℕ) → k < p.floor → Colourable g k → ⊥
  pub plan : FirstPlan g (paint p.drives)
  pub ceiling : p.ceiling ≡ used g (paint p.drives)

module _ (g : Graph) (climbs noes : ℕ) (p : Progress) (x : Climbing g climbs noes p) where
  climbing_ordered : p.standing ≡ Ordered → climbs < vertices g → noes ≡ 0 → Holds g Ordered climbs noes p
  climbing_ordered s l n = record {
    standing = s;
    held = x.held;
    climbed = x.climbed;
    numbers = record {
      fits = x.fits;
      order = x.order;
      peak = x.peak;
      sparse = x.sparse;
      block = x.block;
      floor = x.floor;
      below = x.below;
      plan = x.plan;
      ceiling = x.ceiling;
      climbing = λ _. (l, n);
      climbed = λ y. absurd (false≢true y);
    };
    kernel = λ y. absurd (false≢true y);
    won = λ y. absurd (false≢true y);
  }

  climbing_climbed : p.standing ≡ Climbed → climbs ≡ vertices g → Holds g Climbed climbs noes p
  climbing_climbed s e = record {
    standing = s;
    held = x.held;
    climbed = x.climbed;
    numbers = record {
      fits = x.fits;
      order = x.order;
      peak = x.peak;
      sparse = x.sparse;
      block = x.block;
      floor = x.floor;
      below = x.below;
      plan = x.plan;
      ceiling = x.ceiling;
      climbing = λ y. absurd (false≢true y);
      climbed = λ _. e;
    };
    kernel = λ y. absurd (false≢true y);
    won = λ y. absurd (false≢true y);
  }

  climbing_to : (b : Bool) → eqb climbs (vertices g) ≡ b → p.standing ≡ cond b Climbed Ordered → climbs ≤ vertices g → noes ≡ 0 → Holds g (cond b Climbed Ordered) climbs noes p
  climbing_to true e s l n = climbing_climbed s (eqb-true climbs (vertices g) e)
  climbing_to false e s l n =
      let d : (climbs ≡ vertices g → ⊥) = eqb-false climbs (vertices g) e in climbing_ordered s (omega arith) n

  pub climbing_holds : (left : ℕ) → p.standing ≡ cond (eqb left 0) Climbed Ordered → climbs + left ≡ vertices g → noes ≡ 0 → Holds g (climbed_to g climbs) climbs noes p
  climbing_holds left s e n =
      let same = both (eqb left 0) (eqb climbs (vertices g)) (λ y. let z = eqb-true left 0 y in eq-eqb climbs (vertices g) (omega arith)) (λ y. let z = eqb-true climbs (vertices g) y in eq-eqb left 0 (omega arith)) in
      climbing_to (eqb climbs (vertices g)) refl (s ∙ ap (λ b. cond b Climbed Ordered) same) (omega arith) n

-- a plan with room enough is refused only where the graph is too dense
pub plan_dense : (g : Graph) (room painted : ℕ) (x : Refusal) → g.size ≤ painted → vertices g ≤ room → PlanRefused g room painted x → (x ≡ TooDense) × Dense g
plan_dense g room painted x l m (inl (e, inl k)) = absurd (omega arith)
plan_dense g room painted x l m (inl (e, inr k)) = absurd (omega arith)
plan_dense g room painted x l m (inr (e, a, b, d)) = (e, d)

-- after an order, which stands at the front of a table
pub order_holds : (g : Graph) (before table painted : List ℕ) (p : Progress) → PlannedIn g before table painted p.drives p.held p.degeneracy p.ceiling → p.degeneracy ≤ 63 → p.order.items ≡ take p.held table → p.climbed ≡ 0 → p.block.items ≡ [] → p.floor ≡ 0 → p.standing ≡ cond (eqb p.held 0) Climbed Ordered → Holds g (climbed_to g 0) 0 0 p
order_holds g before table painted p x d o c b f s =
    climbing_holds g 0 0 p (record {
      held = x.ordered.len_is;
      climbed = c;
      fits = ap length o ∙ length-take-le p.held table x.ordered.fits;
      order = subst (IsOrder g) (sym o) x.ordered.order;
      peak = subst (λ xs. IsPeak g xs p.degeneracy) (sym o) x.ordered.peak;
      sparse = d;
      block = subst (λ n. BlockIn g (last p.order.items 0) p.block.items n) (sym (ap length b)) (climb_start g p.order.items p.block.items);
      floor = omega (arith, ap length b);
      below = λ k l _. absurd (omega arith);
      plan = record { order = take p.held table; is_order = x.ordered.order; plan = x.plan };
      ceiling = sym x.drives_are;
    }) p.held s (omega (arith, x.ordered.len_is)) refl

-- the block is in a table where it stands at its front
pub block_table : (g : Graph) (s : ℕ → Bool) (block table : List ℕ) (n : ℕ) → take n table ≡ take n block → BlockIn g s block n → BlockIn g s table n
block_table g s block table n e x =
    record { set = x.set; largest = x.largest; front = e ∙ x.front }

-- after a climb, which makes of the table `before` the table `after`: q is p with the block and the counts of one climb more
pub climb_holds : (g : Graph) (climbs noes at b : ℕ) (before after : List ℕ) (p q : Progress) → Holds g Ordered climbs noes p → at + (climbs + 1) ≡ p.held → Climbs g p.order.items at before after (length p.block.items) b → take (length p.block.items) before ≡ p.block.items → length q.block.items ≡ b → q.block.items ≡ take b after → q.held ≡ p.held → q.degeneracy ≡ p.degeneracy → q.order ≡ p.order → q.drives ≡ p.drives → q.ceiling ≡ p.ceiling → q.climbed ≡ climbs + 1 → q.floor ≡ b → q.standing ≡ cond (eqb at 0) Climbed Ordered → Holds g (climbed_to g (climbs + 1)) (climbs + 1) noes q
climb_holds g climbs noes at b before after p q x e y v l t h d o w u c f s =
    let n = x.numbers in
    let z = (n.climbing refl).1 in
    let size = length p.block.items in
    let same : q.order.items ≡ p.order.items = ap (λ k. k.items) o in
    let old = block_table g (last p.order.items climbs) p.block.items before size (v ∙ sym (take-length p.block.items)) n.block in
    let new = y.step climbs (order_once g p.order.items n.order) (omega (arith, n.fits)) old in
    let front : take b q.block.items ≡ take b after = ap (take b) t ∙ take-take b b after (omega arith) in
    let block = block_table g (last p.order.items (climbs + 1)) after q.block.items b front new in
    climbing_holds g (climbs + 1) noes q (record {
      held = h ∙ x.held;
      climbed = c;
      fits = ap length same ∙ n.fits ∙ sym h;
      order = subst (IsOrder g) (sym same) n.order;
      peak = subst (λ k. IsPeak g q.order.items k) (sym d) (subst (λ xs. IsPeak g xs p.degeneracy) (sym same) n.peak);
      sparse = omega (arith, n.sparse);
      block = subst (λ xs. BlockIn g (last xs (climbs + 1)) q.block.items (length q.block.items)) (sym same) (subst (BlockIn g (last p.order.items (climbs + 1)) q.block.items) (sym l) block);
      floor = omega arith;
      below = λ k i. below_block g (last p.order.items (climbs + 1)) q.block.items b block k (omega arith);
      plan = subst (λ (xs : List ℕ). FirstPlan g (paint xs)) (sym w) n.plan;
      ceiling = u ∙ n.ceiling ∙ ap (λ (xs : List ℕ). used g (paint xs)) (sym w);
    }) at s (omega (arith, x.held)) z

-- the numbers of a report
module _ (g : Graph) (p : Progress) (r : Report) (d : r.degeneracy ≡ p.degeneracy) (c : r.climbed ≡ p.climbed) (b : r.block ≡ (length p.block.items)) (f : r.floor ≡ p.floor) (u : r.ceiling ≡ p.ceiling) where
  ordered_numbers : (x : Point) → p.climbed ≡ x.climbs → Found g x.standing x.climbs x.noes p → r.proved ≡ cond (eqb p.floor p.ceiling) 1 0 → OrderedNumbers g x r
  ordered_numbers x e n v = record {
    degeneracy = subst (IsDegeneracy g) (sym d) (peak_degeneracy g p.order.items p.degeneracy n.order n.peak);
    climbed = c ∙ e;
    block = subst (BlockSize g x.climbs) (sym b) (n.block.set, record { order = p.order.items; is_order = n.order; largest = n.block.largest });
    floor = f ∙ n.floor ∙ ap (λ k. k + x.noes) (sym b);
    plan = paint p.drives;
    is_plan = subst (λ k. PlanAt g x.standing x.climbs k (paint p.drives)) (sym f) n.plan;
    ceiling = u ∙ n.ceiling;
    proved = v ∙ ap (λ k. cond (eqb k p.ceiling) 1 0) (sym f) ∙ ap (λ k. cond (eqb r.floor k) 1 0) (sym u);
  }

  reported_at : (hidden : ℕ → Bool) (s : Standing) (climbs noes : ℕ) → Holds g s climbs noes p → r.standing ≡ standing_number s → r.held ≡ p.held → r.proved ≡ cond (loose s) 0 (cond (eqb p.floor p.ceiling) 1 0) → Reported g (record { hidden = hidden; standing = s; climbs = climbs; noes = noes }) r
  reported_at hidden Loose climbs noes y s h v = record {
    standing = s;
    held = h ∙ y.held;
    numbers = record {
      degeneracy = d ∙ y.numbers.degeneracy;
      climbed = c ∙ y.climbed ∙ y.numbers.no_climbs;
      block = b ∙ y.numbers.block;
      floor = f ∙ y.numbers.floor;
      ceiling = u ∙ y.numbers.ceiling ∙ y.held;
      proved = v;
    };
  }
  reported_at hidden Ordered climbs noes y s h v =
      record { standing = s; held = h ∙ y.held; numbers = ordered_numbers (record { hidden = hidden; standing = Ordered; climbs = climbs; noes = noes }) y.climbed y.numbers v }
  reported_at hidden Climbed climbs noes y s h v =
      record { standing = s; held = h ∙ y.held; numbers = ordered_numbers (record { hidden = hidden; standing = Climbed; climbs = climbs; noes = noes }) y.climbed y.numbers v }
  reported_at hidden Pulled climbs noes y s h v =
      record { standing = s; held = h ∙ y.held; numbers = ordered_numbers (record { hidden = hidden; standing = Pulled; climbs = climbs; noes = noes }) y.climbed y.numbers v }
  reported_at hidden Won climbs noes y s h v =
      record { standing = s; held = h ∙ y.held; numbers = ordered_numbers (record { hidden = hidden; standing = Won; climbs = climbs; noes = noes }) y.climbed y.numbers v }
  reported_at hidden Closed climbs noes y s h v =
      record { standing = s; held = h ∙ y.held; numbers = ordered_numbers (record { hidden = hidden; standing = Closed; climbs = climbs; noes = noes }) y.climbed y.numbers v }

  pub reported : (x : Point) → Holds g x.standing x.climbs x.noes p → r.standing ≡ standing_number p.standing → r.held ≡ p.held → r.proved ≡ cond (loose p.standing) 0 (cond (eqb p.floor p.ceiling) 1 0) → Reported g x r
  reported x y s h v =
      reported_at x.hidden x.standing x.climbs x.noes y (s ∙ ap standing_number y.standing) h (v ∙ ap (λ t. cond (loose t) 0 (cond (eqb p.floor p.ceiling) 1 0)) y.standing)
