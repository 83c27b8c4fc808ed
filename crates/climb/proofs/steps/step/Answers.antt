use Rattle.std.proofs.Common.{◌≡◌, ℕ, ◌<◌, ◌≤◌, Bool, false, length, get_or, refl, ap, ◌∙◌, inr, arith}
use Rattle.finite.specs.Finite.{count, members}
use Rattle.finite.proofs.Counts.{count_same}
use Rattle.graph.specs.declared.refusal.Refusal.TheVariants.{TooDense}
use Rattle.climbing.specs.Climbs.{picked, plus}
use Rattle.climbing.proofs.Blocks.{climbs_larger, climbs_same, climbs_few, step_dense}
use Rattle.climbing.proofs.Tails.{members_same, table_marked, table_plus}
use Rattle.climb.proofs.steps.step.Given as given
use Rattle.climb.proofs.steps.step.Goals as goal
use Rattle.climb.proofs.steps.step.Goals.{After-len, After-mark}

pub returns-in_default-clause-succeeds : goal.returns-in_default-clause-succeeds
returns-in_default-clause-succeeds g c m o k l h =
    let G = g.T.Terrain.graph c.args.terrain.now in
    absurd (step_dense G c.args.order.now c.args.at TooDense m h o k l (inr (refl, c.if-at-order.false, c.in_default.ensures)))

short : (g : given.Over) (c : goal.After-len g) → length c.in-Some.later.items ≤ 63
short g c = let f : c.len.result ≤ 63 = c.len.ensures.fits in omega (arith, c.len.ensures.value)

pub returns-then-len-clause-cases : goal.returns-then-len-clause-cases
returns-then-len-clause-cases g c =
    climbs_few _ c.args.order.now c.in-Some.later.items c.args.at c.in-Some.ensures (g.met.T.Terrain.lawful c.args.terrain.now) c.if-at-order.false (short g (goal.at.returns-then-len-clause-cases g c).After-len) c.args.block.now c.args.len (omega (arith, c.len.ensures.value))

-- what is marked is the vertex and what was picked
marked : (g : given.Over) (c : goal.After-mark g) (x : ℕ) → x < (g.T.Terrain.graph c.args.terrain.now).size → get_or c.mark.new.table x false ≡ plus (get_or c.args.order.now c.args.at 0) (picked c.in-Some.later.items c.in-Some-reaching.mask) x
marked g c =
    let law = g.met.T.Terrain.lawful c.args.terrain.now in
    table_marked c.picked_table-members.result c.mark.new.table c.in-Some.later.items c.in-Some-reaching.mask (get_or c.args.order.now c.args.at 0) (g.T.Terrain.graph c.args.terrain.now).size (omega (arith, law.small))
    (rw c.deref-in-Some-reaching.ensures.0 at c.picked_table-members.ensures.places) c.mark.ensures.places

pub write_block-requires-clause-few : goal.write_block-requires-clause-few
write_block-requires-clause-few g c =
    let a = goal.at.write_block-requires-clause-few g c in
    let few = table_plus (λ x. get_or c.mark.new.table x false) c.in-Some.later.items c.in-Some-reaching.mask (get_or c.args.order.now c.args.at 0) (g.T.Terrain.graph c.args.terrain.now).size (marked g a.After-mark) in
    rw c.size.ensures (omega (arith, few, short g a.After-len))

pub returns-in-Some-reaching-clause-cases : goal.returns-in-Some-reaching-clause-cases
returns-in-Some-reaching-clause-cases g c =
    let a = goal.at.returns-in-Some-reaching-clause-cases g c in
    let G = g.T.Terrain.graph c.args.terrain.now in
    let q = c.in-Some.later.items in
    let v = get_or c.args.order.now c.args.at 0 in
    let s : ℕ → Bool = λ x. get_or c.mark.new.table x false in
    let t : ℕ → Bool = plus v (picked q c.in-Some-reaching.mask) in
    climbs_larger G c.args.order.now q c.args.at c.in-Some.ensures (g.met.T.Terrain.lawful c.args.terrain.now) c.if-at-order.false (short g a.After-len) c.args.block.now c.write_block.new.block c.args.len c.write_block.result c.in-Some-reaching.mask
    (rw c.deref.ensures.0 at c.in-Some-reaching.ensures)
    (c.write_block.ensures.len ∙ ap (count s) c.size.ensures ∙ count_same s t G.size (marked g a.After-mark))
    (c.write_block.ensures.items ∙ ap (members s) c.size.ensures ∙ members_same s t G.size (marked g a.After-mark))

pub returns-in-None-clause-cases : goal.returns-in-None-clause-cases
returns-in-None-clause-cases g c =
    climbs_same _ c.args.order.now c.in-Some.later.items c.args.at c.in-Some.ensures (g.met.T.Terrain.lawful c.args.terrain.now) c.if-at-order.false (short g (goal.at.returns-in-None-clause-cases g c).After-len) c.args.block.now c.args.len (rw c.deref.ensures.0 at c.in-None.ensures)
