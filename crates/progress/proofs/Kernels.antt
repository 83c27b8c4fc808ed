-- What pulling, trying and putting back leave of what a planner has found.
use Rattle.std.proofs.Common.{◌≡◌, ℕ, zero, suc, ◌+◌, ◌-◌, ◌<◌, ◌≤◌, max, Bool, true, false, cond, not, ◌&&◌, eqb, List, [], ◌∷◌, length, get_or, take, replicate, Some, None, Option, sym, refl, ap, ◌∙◌, subst, inl, inr, arith}
use mathlib.Core.Path.{fun_ext}
use Rattle.std.proofs.lemmas.Bool.{false≢true, eqb-true, eqb-false, cases_lt, cases_Bool, lt-ltb, le-ltb}
use Rattle.finite.specs.Finite.{count, members, has}
use Rattle.finite.proofs.Counts.{has_true}
use Rattle.finite.proofs.Members.{length_members, members_some, members_at, count_rise, nth_in}
use Rattle.graph.specs.Graph.{Graph, Lawful, held}
use Rattle.graph.specs.Colourings.{Coloured, ColourableIn, Colourable, used}
use Rattle.graph.specs.Degeneracy.{CoreOf}
use Rattle.graph.proofs.Graphs.{held_below}
use Rattle.colourings.proofs.Used.{used_most, used_exactly}
use Rattle.degeneracy.specs.Order.{IsOrder, IsPeak, survivors}
use Rattle.degeneracy.proofs.Orders.{survivors_held, order_one}
use Rattle.degeneracy.proofs.Plans.{plan_few, plan_coloured}
use Rattle.climbing.specs.Climbs.{BlockIn, last}
use Rattle.supports.specs.Peel.{without, alive}
use Rattle.placings.specs.Colours.{Colours, at}
use Rattle.kernels.specs.Kernels.{Draws, places, joined}
use Rattle.peels.specs.Peels.{Taken, CoreLeft, Lists}
use Rattle.peels.proofs.Kernels.{kernel_needed}
use Rattle.peels.proofs.Pictures.{to_graph, from_graph}
use Rattle.cores.specs.Cores.{CoreIn}
use Rattle.putback.specs.Backs.{BackIn, BackRefused, Laid}
use Rattle.graph.specs.declared.refusal.Refusal.{Refusal}
use Rattle.calls.specs.declared.standing.Standing.{Standing}
use Rattle.calls.specs.declared.standing.Standing.TheVariants.{Climbed, Pulled, Won, Closed}
use Rattle.calls.specs.declared.call.Reply.TheVariants.{Tried}
use Rattle.calls.specs.Table.{full, among}
use Rattle.calls.specs.Points.{Point}
use Rattle.calls.specs.Parts.{FirstPlan, LastPlan, PlanAt, BlockSize, Kernel}
use Rattle.calls.specs.Fair.{TryAnswer}
use Rattle.progress.specs.declared.state.Progress.{Progress}
use Rattle.progress.specs.Holds.{Holds, Found, Out, NewPlan, paint}

-- the rising list of a set lists it
some_one : (a b : ℕ) → ◌≡◌ {A = Option ℕ} (Some a) (Some b) → a ≡ b
some_one a b e = ap (λ (o : Option ℕ). elim o [ Some v ↦ v | None ↦ 0 ]) e

pub lists_members : (s : ℕ → Bool) (n : ℕ) → ((c : ℕ) → s c ≡ true → c < n) → Lists s (members s n)
lists_members s n below =
    let xs = members s n in
    let at : (i : ℕ) → i < length xs → (get_or xs i 0 < n) × (s (get_or xs i 0) ≡ true) × (count s (get_or xs i 0) ≡ i) = λ i l. members_some s n i (get_or xs i 0) (nth_in xs i l) in
    record {
      only = λ i l. (at i l).1;
      all = λ c y.
          let l : count s c < length xs = omega (arith, length_members s n, count_rise s c n (below c y) y) in
          (count s c, l, some_one (get_or xs (count s c) 0) c (sym (nth_in xs (count s c) l) ∙ members_at s n c (count s c) (below c y) y refl));
      once = λ i j l m e. sym (at i l).2 ∙ ap (count s) e ∙ (at j m).2;
    }

-- a byte tells a test
byte_is : (w : Bool) → eqb (cond w 1 0) 1 ≡ w
byte_is true = refl
byte_is false = refl

-- what lives after peeling is what is left
module _ (g : Graph) (t : ℕ) (living after taken list : List ℕ) (len : ℕ) (x : CoreIn g t living after taken list len) where
  lives_left : (c : ℕ) → alive g.size after c ≡ survivors g (take len list) c
  unfolding alive survivors without
  lives_left c =
      elim (cases_lt c g.size) [
        | inl l ↦ ap (λ b. b && eqb (get_or after c 0) 1) (lt-ltb c g.size l) ∙ ap (λ v. eqb v 1) (x.bytes c l) ∙ byte_is (without (held g) (take len list) c)
        | inr l ↦ ap (λ b. b && eqb (get_or after c 0) 1) (le-ltb c g.size l) ∙ ap (λ b. (b && g.listed c) && not (has (take len list) c)) (sym (le-ltb c g.size l))
      ]

  left_lives : alive g.size after ≡ survivors g (take len list)
  left_lives = fun_ext lives_left

  pub core_of : CoreOf g t (survivors g (take len list))
  core_of = subst (CoreOf g t) left_lives x.core

  pub core_left : CoreLeft g t (take len list)
  unfolding without survivors
  core_left = record {
    peeled = record { taken = λ i l. (x.peels i l).member; few = λ i l. (x.peels i l).below };
    stuck = core_of.supported.each;
  }

  pub core_lists : Lists (survivors g (take len list)) (members (alive g.size after) g.size)
  core_lists =
      subst (λ s. Lists (survivors g (take len list)) (members s g.size)) (sym left_lives) (lists_members (survivors g (take len list)) g.size (λ c y. held_below g c (survivors_held g (take len list) c y)))

-- what stays of what was found, but for the floor, the plan and the kernel
pub record Kept (p q : Progress) : Type 0 where
  pub held : q.held ≡ p.held
  pub degeneracy : q.degeneracy ≡ p.degeneracy
  pub order : q.order ≡ p.order
  pub block : q.block ≡ p.block
  pub size : (length q.block.items) ≡ (length p.block.items)

module _ (g : Graph) (s t : Standing) (climbs noes more : ℕ) (p q : Progress) (k : Kept p q) (f : Found g s climbs noes p) where
  same_order : q.order.items ≡ p.order.items
  same_order = ap (λ v. v.items) k.order

  same_block : q.block.items ≡ p.block.items
  same_block = ap (λ v. v.items) k.block

  pub found_to : full s ≡ true → full t ≡ true → among false true false false false false t ≡ false → q.floor ≡ length q.block.items + more → ((j : ℕ) → j < q.floor → Colourable g j → ⊥) → PlanAt g t climbs q.floor (paint q.drives) → q.ceiling ≡ used g (paint q.drives) → Found g t climbs more q
  found_to e d c floor below plan ceiling = record {
    fits = ap length same_order ∙ f.fits ∙ sym k.held;
    order = subst (IsOrder g) (sym same_order) f.order;
    peak = subst (λ n. IsPeak g q.order.items n) (sym k.degeneracy) (subst (λ xs. IsPeak g xs p.degeneracy) (sym same_order) f.peak);
    sparse = omega (arith, f.sparse, k.degeneracy);
    block = subst (λ xs. BlockIn g (last xs climbs) q.block.items (length q.block.items)) (sym same_order) (subst (λ xs. BlockIn g (last p.order.items climbs) xs (length xs)) (sym same_block) f.block);
    floor = floor;
    below = below;
    plan = plan;
    ceiling = ceiling;
    climbing = λ y. absurd (false≢true (sym c ∙ y));
    climbed = λ _. f.climbed e;
  }

-- the block's size
pub block_size : (g : Graph) (s : Standing) (climbs noes : ℕ) (p : Progress) → Found g s climbs noes p → BlockSize g climbs (length p.block.items)
block_size g s climbs noes p f =
    (f.block.set, record { order = p.order.items; is_order = f.order; largest = f.block.largest })

-- a pull
pub pull_holds : (g : Graph) (climbs noes len : ℕ) (living after taken table : List ℕ) (p q : Progress) → Holds g Climbed climbs noes p → Kept p q → q.climbed ≡ p.climbed → q.floor ≡ p.floor → q.drives ≡ p.drives → q.ceiling ≡ p.ceiling → q.standing ≡ Pulled → CoreIn g (length p.block.items) living after taken table len → q.taken.items ≡ take len table → q.places.items ≡ members (alive g.size after) g.size → Draws g q.places.items q.kernel → Holds g Pulled climbs noes q
pull_holds g climbs noes len living after taken table p q x k c f d u s z t e w =
    let y = x.numbers in
    let size = length p.block.items in
    record {
      standing = s;
      held = k.held ∙ x.held;
      climbed = c ∙ x.climbed;
      numbers = found_to g Climbed Pulled climbs noes noes p q k y refl refl refl (f ∙ y.floor ∙ ap (λ i. i + noes) (sym k.size)) (λ j i. y.below j (omega arith)) (subst (λ (xs : List ℕ). FirstPlan g (paint xs)) (sym d) y.plan) (u ∙ y.ceiling ∙ ap (λ (xs : List ℕ). used g (paint xs)) (sym d));
      kernel = λ _. record {
        core = subst (λ xs. CoreOf g (length q.block.items) (survivors g xs)) (sym t) (subst (λ b. CoreOf g b (survivors g (take len table))) (sym k.size) (core_of g size living after taken table len z));
        left = subst (CoreLeft g (length q.block.items)) (sym t) (subst (λ b. CoreLeft g b (take len table)) (sym k.size) (core_left g size living after taken table len z));
        lists = subst (λ xs. Lists (survivors g xs) q.places.items) (sym t) (subst (Lists (survivors g (take len table))) (sym e) (core_lists g size living after taken table len z));
        draws = w;
      };
      won = λ y. absurd (false≢true y);
    }

-- where a number stands in a list
place : List ℕ → ℕ → ℕ
place [] c = 0
place (x ∷ xs) c = cond (eqb x c) 0 (suc (place xs c))

place_cons : (x c : ℕ) (xs : List ℕ) (b : Bool) → eqb x c ≡ b → ((x ≡ c → ⊥) → (place xs c < length xs) × (get_or xs (place xs c) 0 ≡ c)) → (cond b 0 (suc (place xs c)) < length (x ∷ xs)) × (get_or (x ∷ xs) (cond b 0 (suc (place xs c))) 0 ≡ c)
place_cons x c xs true e f = (omega arith, eqb-true x c e)
place_cons x c xs false e f = let r = f (eqb-false x c e) in (omega arith, r.1)

place_is : (xs : List ℕ) (i c : ℕ) → i < length xs → get_or xs i 0 ≡ c → (place xs c < length xs) × (get_or xs (place xs c) 0 ≡ c)
unfolding place
place_is [] i c l e = absurd (omega arith)
place_is (x ∷ xs) zero c l e = place_cons x c xs (eqb x c) refl (λ n. absurd (n e))
place_is (x ∷ xs) (suc i) c l e = place_cons x c xs (eqb x c) refl (λ _. place_is xs i c (omega arith) e)

-- a try
module _ (g : Graph) (x : Point) (p : Progress) (y : Holds g Pulled x.climbs x.noes p) where
  is_kernel : Kernel g x.climbs (length p.block.items) (survivors g p.taken.items)
  is_kernel =
      record { block = block_size g Pulled x.climbs x.noes p y.numbers; core = (y.kernel refl).core }

  -- a colouring of the places
  coloured_from : (f : ℕ → ℕ) → Colours (places p.kernel) (joined p.kernel) p.floor f → ColourableIn g (survivors g p.taken.items) p.floor
  coloured_from f w =
      let o = y.kernel refl in
      let xs = p.places.items in
      let col : ℕ → ℕ = λ c. f (place xs c) in
      let e : (i : ℕ) → i < length xs → col (get_or xs i 0) ≡ f i = λ i l. (let r = place_is xs i (get_or xs i 0) l refl in ap f (o.lists.once (place xs (get_or xs i 0)) i r.0 l r.1)) in
      (col, to_graph g (survivors g p.taken.items) xs (places p.kernel) (joined p.kernel) p.floor o.lists o.draws.size o.draws.joins f col e w)

  -- none where the places have none
  uncoloured_from : ((f : ℕ → ℕ) → Colours (places p.kernel) (joined p.kernel) p.floor f → ⊥) → ColourableIn g (survivors g p.taken.items) p.floor → ⊥
  uncoloured_from none w =
      let o = y.kernel refl in
      let xs = p.places.items in
      none (λ i. w.0 (get_or xs i 0)) (from_graph g (survivors g p.taken.items) xs (places p.kernel) (joined p.kernel) p.floor o.lists o.draws.size o.draws.joins w.0 w.1)

  pub try_yes : (q : Progress) → Kept p q → q.climbed ≡ p.climbed → q.floor ≡ p.floor → q.drives ≡ p.drives → q.ceiling ≡ p.ceiling → q.standing ≡ Won → Out g q → Colours (places p.kernel) (joined p.kernel) p.floor (at q.found) → Colours (places q.kernel) (joined q.kernel) q.floor (at q.found) → TryAnswer g x (Tried true) × Holds g Won x.climbs x.noes q
  try_yes q k c f d u s o w v =
      let n = y.numbers in (
        record {
          size = (length p.block.items);
          kernel = survivors g p.taken.items;
          is_kernel = is_kernel;
          yes = true;
          answer = refl;
          test = subst (ColourableIn g (survivors g p.taken.items)) n.floor (coloured_from (at q.found) w);
        },
        record {
          standing = s;
          held = k.held ∙ y.held;
          climbed = c ∙ y.climbed;
          numbers = found_to g Pulled Won x.climbs x.noes x.noes p q k n refl refl refl (f ∙ n.floor ∙ ap (λ i. i + x.noes) (sym k.size)) (λ j i. n.below j (omega arith)) (subst (λ (xs : List ℕ). FirstPlan g (paint xs)) (sym d) n.plan) (u ∙ n.ceiling ∙ ap (λ (xs : List ℕ). used g (paint xs)) (sym d));
          kernel = λ _. o;
          won = λ _. v;
        },
      )

  -- the floor is at most degeneracy + 1
  pub floor_low : Lawful g → p.floor ≤ 64
  floor_low law =
      let n = y.numbers in
      let f = n.plan in
      let top = p.degeneracy + 1 in
      let e = order_one g f.order p.order.items f.is_order n.order in
      let peak = subst (λ xs. IsPeak g xs p.degeneracy) (sym e) n.peak in
      let w = plan_coloured g f.order (paint p.drives) top law f.is_order f.plan (plan_few g f.order (paint p.drives) p.degeneracy f.is_order peak f.plan) in
      elim (cases_lt top p.floor) [
        | inl l ↦ absurd (n.below top l (paint p.drives, w))
        | inr l ↦ omega (arith, n.sparse)
      ]

  pub try_no : (q : Progress) → Kept p q → q.climbed ≡ p.climbed → q.floor ≡ p.floor + 1 → q.drives ≡ p.drives → q.ceiling ≡ p.ceiling → q.standing ≡ p.standing → Out g q → ((f : ℕ → ℕ) → Colours (places p.kernel) (joined p.kernel) p.floor f → ⊥) → TryAnswer g x (Tried false) × Holds g Pulled x.climbs (x.noes + 1) q
  try_no q k c f d u s o none =
      let n = y.numbers in
      let no = uncoloured_from none in
      let below : (j : ℕ) → j < q.floor → Colourable g j → ⊥ = λ j l w. elim (cases_lt j p.floor) [
        | inl i ↦ n.below j i w
        | inr i ↦ let e : j ≡ p.floor = omega arith in no (kernel_needed g p.taken.items p.floor (subst (Colourable g) e w))
      ] in (
        record {
          size = (length p.block.items);
          kernel = survivors g p.taken.items;
          is_kernel = is_kernel;
          yes = false;
          answer = refl;
          test = λ w. no (subst (ColourableIn g (survivors g p.taken.items)) (sym n.floor) w);
        },
        record {
          standing = s ∙ y.standing;
          held = k.held ∙ y.held;
          climbed = c ∙ y.climbed;
          numbers = found_to g Pulled Pulled x.climbs x.noes (x.noes + 1) p q k n refl refl refl (omega (arith, n.floor, k.size)) below (subst (λ (xs : List ℕ). FirstPlan g (paint xs)) (sym d) n.plan) (u ∙ n.ceiling ∙ ap (λ (xs : List ℕ). used g (paint xs)) (sym d));
          kernel = λ _. o;
          won = λ e. absurd (false≢true e);
        },
      )

-- giving up
pub given_up : (g : Graph) (climbs noes : ℕ) (p q : Progress) → Holds g Pulled climbs noes p → Kept p q → q.climbed ≡ p.climbed → q.floor ≡ p.floor → q.drives ≡ p.drives → q.ceiling ≡ p.ceiling → q.standing ≡ Climbed → Holds g Climbed climbs noes q
given_up g climbs noes p q y k c f d u s =
    let n = y.numbers in
    record {
      standing = s;
      held = k.held ∙ y.held;
      climbed = c ∙ y.climbed;
      numbers = found_to g Pulled Climbed climbs noes noes p q k n refl refl refl (f ∙ n.floor ∙ ap (λ i. i + noes) (sym k.size)) (λ j i. n.below j (omega arith)) (subst (λ (xs : List ℕ). FirstPlan g (paint xs)) (sym d) n.plan) (u ∙ n.ceiling ∙ ap (λ (xs : List ℕ). used g (paint xs)) (sym d));
      kernel = λ e. absurd (false≢true e);
      won = λ e. absurd (false≢true e);
    }

-- closing
pub closed : (g : Graph) (climbs noes : ℕ) (p q : Progress) → Holds g Won climbs noes p → Kept p q → q.climbed ≡ p.climbed → q.floor ≡ p.floor → q.ceiling ≡ p.floor → q.standing ≡ Closed → NewPlan g climbs p.floor q.drives → Holds g Closed climbs noes q
closed g climbs noes p q y k c f u s w =
    let n = y.numbers in
    record {
      standing = s;
      held = k.held ∙ y.held;
      climbed = c ∙ y.climbed;
      numbers = found_to g Won Closed climbs noes noes p q k n refl refl refl (f ∙ n.floor ∙ ap (λ i. i + noes) (sym k.size)) (λ j i. n.below j (omega arith)) (subst (λ i. LastPlan g climbs i (paint q.drives)) (sym f) w.plan) (u ∙ sym w.uses);
      kernel = λ e. absurd (false≢true e);
      won = λ e. absurd (false≢true e);
    }

-- what is not held is in no list of vertices
unlisted : (g : Graph) (xs : List ℕ) (c : ℕ) → held g c ≡ false → ((i : ℕ) → i < length xs → held g (get_or xs i 0) ≡ true) → has xs c ≡ false
unlisted g xs c u f =
    elim (cases_Bool (has xs c)) [
      | inl e ↦ let r = has_true xs c e in absurd (false≢true (sym u ∙ ap (held g) (sym r.2) ∙ f r.0 r.1))
      | inr e ↦ e
    ]

-- an empty table
pub blank : (n c : ℕ) → paint (replicate n 0) c ≡ 0
blank zero c = refl
blank (suc n) zero = refl
blank (suc n) (suc c) = blank n c

-- those that were taken out fit
pub back_fits : (g : Graph) (t : List ℕ) (room : ℕ) (x : Refusal) → g.size ≤ room → Taken g t → BackRefused g.size t room x → ⊥
back_fits g t room x l a (inl (e, s)) = omega arith
back_fits g t room x l a (inr (e, k, (i, m, o))) =
    let h = held_below g (get_or t i 0) (survivors_held g (take i t) (get_or t i 0) (a i m)) in omega arith

-- the new plan
pub new_plan : (g : Graph) (climbs noes : ℕ) (p : Progress) (start mid drives : List ℕ) → Lawful g → Holds g Won climbs noes p → ((c : ℕ) → paint start c ≡ 0) → Laid p.places.items p.found start mid → BackIn g p.taken.items mid drives → NewPlan g climbs p.floor drives
new_plan g climbs noes p start mid drives law y blank a b =
    let n = y.numbers in
    let o = y.kernel refl in
    let xs = p.places.items in
    let t = p.taken.items in
    let w = to_graph g (survivors g t) xs (places p.kernel) (joined p.kernel) p.floor o.lists o.draws.size o.draws.joins (at p.found) (paint mid) (a.laid o.lists.once) (y.won refl) in
    let e : max p.floor (length p.block.items) ≡ p.floor = omega (arith, n.floor) in
    let coloured = subst (λ i. Coloured g i (paint drives)) e (b.coloured (length p.block.items) p.floor o.left.peeled w) in
    let uses : used g (paint drives) ≡ p.floor = elim (cases_lt 0 p.floor) [
      | inl l ↦ used_exactly g p.floor (paint drives) coloured (n.below (p.floor - 1) (omega arith))
      | inr l ↦ omega (arith, used_most g p.floor (paint drives) coloured)
    ] in
    record {
      plan = record {
        size = (length p.block.items);
        block = block_size g Won climbs noes p n;
        taken = t;
        left = o.left;
        old = paint mid;
        coloured = w;
        back = b.back o.left.peeled.taken;
        others = λ c l u. b.keeps c (unlisted g t c u (λ i m. survivors_held g (take i t) (get_or t i 0) (o.left.peeled.taken i m))) ∙ a.keeps c (unlisted g xs c u (λ i m. survivors_held g t (get_or xs i 0) (o.lists.only i m))) ∙ blank c;
      };
      uses = uses;
    }

-- what a try answers, by its answer
pub tried_yes : (g : Graph) (x : Point) (q : Progress) (b : Bool) → b ≡ true → TryAnswer g x (Tried true) × Holds g Won x.climbs x.noes q → TryAnswer g x (Tried b) × Holds g (cond b Won Pulled) x.climbs (cond b x.noes (x.noes + 1)) q
tried_yes g x q true e r = r
tried_yes g x q false e r = absurd (false≢true e)

pub tried_no : (g : Graph) (x : Point) (q : Progress) (b : Bool) → b ≡ false → TryAnswer g x (Tried false) × Holds g Pulled x.climbs (x.noes + 1) q → TryAnswer g x (Tried b) × Holds g (cond b Won Pulled) x.climbs (cond b x.noes (x.noes + 1)) q
tried_no g x q false e r = r
tried_no g x q true e r = absurd (false≢true (sym e))

-- a planner that won is not one that is pulled
pub won_pulled : (g h : Graph) (i j m n : ℕ) (p : Progress) → p.standing ≡ Won → Holds h Pulled m n p → ⊥
won_pulled g h i j m n p e x = false≢true (ap (among false false false true false false) (sym e ∙ x.standing))
