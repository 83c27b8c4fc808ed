-- The block, the kernel and the plan: what is one, and what it bounds.
use Rattle.std.proofs.Common.{◌≡◌, ℕ, zero, suc, ◌+◌, ◌-◌, ◌<◌, ◌≤◌, Bool, true, not, ◌&&◌, eqb, List, length, get_or, drop, sym, refl, ap, ◌∙◌, subst, inl, inr, arith}
use Rattle.std.proofs.lemmas.Bool.{cases_eq, cases_lt, both_ways}
use Rattle.finite.specs.Finite.{count, any, has}
use Rattle.finite.specs.Supports.{Within}
use Rattle.finite.proofs.Counts.{count_same}
use Rattle.finite.proofs.Pigeons.{count_inject}
use Rattle.graph.specs.Graph.{Graph, Lawful, held, vertices}
use Rattle.graph.specs.Cliques.{Clique, CliqueOf}
use Rattle.graph.specs.Colourings.{Coloured, ColourableIn, Colourable, leads, used}
use Rattle.graph.specs.Degeneracy.{IsDegeneracy, CoreOf}
use Rattle.graph.proofs.Graphs.{held_below}
use Rattle.degeneracy.specs.Order.{IsOrder, survivors, met}
use Rattle.degeneracy.proofs.Orders.{survivors_held, survivors_not, order_one, degeneracy_one, peak_degeneracy}
use Rattle.degeneracy.proofs.Removal.{some_order}
use Rattle.degeneracy.proofs.Plans.{plan_proper, plan_low, plan_one}
use Rattle.colourings.proofs.Coloured.{coloured_fewer, coloured_proper}
use Rattle.colourings.proofs.Used.{used_most, clique_used}
use Rattle.climbing.specs.Climbs.{LargestAmong, last}
use Rattle.climbing.proofs.Later.{order_once, count_true}
use Rattle.climbing.proofs.Numbers.{one_number}
use Rattle.peels.specs.Peels.{Peeled}
use Rattle.peels.proofs.Kernels.{kernel_enough}
use Rattle.peels.proofs.Backs.{put_coloured}
use Rattle.calls.specs.Parts.{Block, BlockSize, Kernel, Assignment, FirstPlan, LastPlan}

-- ---- blocks

pub block_clique : (g : Graph) (j : ℕ) (K : ℕ → Bool) (b : ℕ) → Block g j K b → CliqueOf g K b
block_clique g j K b w = record { clique = w.largest.clique; many = w.largest.many }

-- all blocks after so many climbs are of one size
pub block_one : (g : Graph) (j b d : ℕ) → BlockSize g j b → BlockSize g j d → b ≡ d
block_one g j b d v w =
    let same = order_one g w.1.order v.1.order w.1.is_order v.1.is_order in
    one_number g (last v.1.order j) b d (record { set = v.0; largest = v.1.largest })
    (record { set = w.0; largest = subst (λ p. LargestAmong g (last p j) w.0 d) same w.1.largest })

-- an order is no longer than there are vertices
order_short : (g : Graph) (p : List ℕ) → IsOrder g p → length p ≤ vertices g
unfolding vertices
order_short g p o =
    let once = order_once g p o in
    let e = count_true (length p) in
    let l = count_inject (λ _. true) (held g) (λ k b. get_or p k 0 ≡ b) (length p) g.size (λ k h _. (get_or p k 0, held_below g (get_or p k 0) (once.vertex k h), once.vertex k h, refl)) (λ a c b la lc _ _ u v. elim (cases_eq a c) [ inl z ↦ z | inr ne ↦ absurd (elim (cases_lt a c) [ inl q ↦ once.once a c q lc (u ∙ sym v) | inr q ↦ once.once c a (omega arith) la (v ∙ sym u) ]) ]) in
    omega arith

-- when every vertex is climbed no clique is larger
pub block_largest : (g : Graph) (j b : ℕ) → BlockSize g j b → j ≡ vertices g → (K : ℕ → Bool) → Clique g K → count K g.size ≤ b
block_largest g j b w e K k =
    let p = w.1.order in
    let l = order_short g p w.1.is_order in
    let z : length p - j ≡ 0 = omega arith in
    w.1.largest.most K k (λ c y. ap (λ (i : ℕ). has (drop i p) c) z ∙ w.1.is_order.all c (k.members c y))

-- ---- numbers of colours

pub colourable_more : (g : Graph) (s : ℕ → Bool) (k m : ℕ) → k ≤ m → ColourableIn g s k → ColourableIn g s m
colourable_more g s k m l w =
    (w.0, record { low = w.1.low; high = λ c y. (let h = w.1.high c y in omega arith); apart = w.1.apart })

pub colourable_within : (g : Graph) (s t : ℕ → Bool) (k : ℕ) → Within s t → ColourableIn g t k → ColourableIn g s k
colourable_within g s t k f w = (w.0, coloured_fewer g s t k w.0 f w.1)

-- a clique wants as many colours as it has members
pub clique_floor : (g : Graph) (K : ℕ → Bool) (b k : ℕ) → CliqueOf g K b → k < b → Colourable g k → ⊥
clique_floor g K b k q l w =
    let u = used_most g k w.0 w.1 in
    let v = clique_used g K b w.0 q (coloured_proper g k w.0 w.1) in
    omega arith

-- one more colour than the degeneracy suffices
pub degeneracy_enough : (g : Graph) (d : ℕ) → Lawful g → IsDegeneracy g d → Colourable g (d + 1)
unfolding met
degeneracy_enough g d lw h =
    let o = some_order g in
    let p = o.0 in
    let e = degeneracy_one g o.1 d (peak_degeneracy g p o.1 o.2 o.3) h in
    let none : (c : ℕ) → survivors g p c ≡ true → ⊥ = λ c y. both_ways (has p c) (survivors_not g p c y) (o.2.all c (survivors_held g p c y)) in
    let peeled : Peeled g (d + 1) p = record { taken = λ i l. (o.2.each i l).member; few = λ i l. (let m = o.3.above i l in omega arith) } in
    kernel_enough g p (d + 1) (d + 1) lw peeled (omega arith)
    (λ c. 0, record { low = λ c y. absurd (none c y); high = λ c y. absurd (none c y); apart = λ a b y. absurd (none a y) })

-- ---- kernels

pub kernel_held : (g : Graph) (j b : ℕ) (s : ℕ → Bool) → Kernel g j b s → Within s (held g)
kernel_held g j b s w = w.core.supported.within

-- there is one kernel
pub kernel_one : (g : Graph) (j b d : ℕ) (s t : ℕ → Bool) → Kernel g j b s → Kernel g j d t → Within s t
kernel_one g j b d s t v w =
    let e = block_one g j b d v.block w.block in
    w.core.covers s (subst (λ (k : ℕ). CoreOf g k s) e v.core).supported

-- ---- plans

any_same : (p q : ℕ → Bool) (n : ℕ) → ((c : ℕ) → c < n → p c ≡ q c) → any p n ≡ any q n
unfolding any
any_same p q zero f = refl
any_same p q (suc n) f = rw (f n (omega arith), any_same p q n (λ c l. f c (omega arith))) refl

-- how many colours are used depends on the colours below the size alone
pub used_same : (g : Graph) (col new : ℕ → ℕ) → ((c : ℕ) → c < g.size → col c ≡ new c) → used g col ≡ used g new
unfolding used leads
used_same g col new f =
    count_same (leads g col) (leads g new) g.size
    (λ c l. ap (λ (v : Bool). held g c && not v) (any_same (λ b. held g b && eqb (col b) (col c)) (λ b. held g b && eqb (new b) (new c)) c (λ b h. rw (f b (omega arith), f c l) refl)))

pub first_assigns : (g : Graph) (col : ℕ → ℕ) → Lawful g → FirstPlan g col → Assignment g col
first_assigns g col lw w =
    record { low = plan_low g w.order col w.is_order w.plan; proper = plan_proper g w.order col lw w.is_order w.plan }

pub first_same : (g : Graph) (col new : ℕ → ℕ) → Lawful g → FirstPlan g col → FirstPlan g new → used g col ≡ used g new
first_same g col new lw v w =
    let p = v.order in
    let same = order_one g w.order p w.is_order v.is_order in
    used_same g col new (plan_one g p col new lw v.is_order v.plan (rw same at w.plan))

-- a plan after a yes at k, from the block's size on, is a colouring in 1 to k
pub last_coloured : (g : Graph) (j b k : ℕ) (col : ℕ → ℕ) → Lawful g → BlockSize g j b → b ≤ k → LastPlan g j k col → Coloured g k col
last_coloured g j b k col lw bs l w =
    let e = block_one g j w.size b w.block bs in
    put_coloured g w.taken w.size k w.old col lw w.left.peeled (omega arith) w.coloured w.back
