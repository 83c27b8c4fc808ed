use Rattle.std.proofs.Common.{◌≡◌, ℕ, ◌-◌, false, [], take, sym, refl, ◌∙◌, subst, arith}
use Rattle.std.proofs.lemmas.Bool.{both_ways}
use Rattle.finite.specs.Finite.{has}
use Rattle.finite.proofs.Counts.{has_none}
use Rattle.supports.specs.Peel.{alive}
use Rattle.supports.specs.Levels.{DeepestIn}
use Rattle.supports.proofs.Peels.{alive_below}
use Rattle.supports.proofs.Descents.{LowestCount, descent_none, descent_more, descent_less, descent_in, descent_up, descent_was}
use Rattle.peeling.proofs.descend.Goals as goal

pub loop-low-init : goal.loop-low-init
loop-low-init g c =
    (descent_none _ _ _ _ c.requires.counted, omega arith, (λ k y. absurd (both_ways (has [] k) (has_none k) y)), λ k. refl)

pub loop-low-smaller : goal.loop-low-smaller
loop-low-smaller g c =
    let f = g.met.P.Peeled.falls c.args.pool.now c.args.list.now in
    let d = c.loop-low.invariant.0 in
    let e = c.item_count-n.ensures in
    let l = subst (λ (v : ℕ). LowestCount v c.loop-low.living c.loop-low.counts c.in-Some.low) e c.in-Some.ensures in
    descent_less _ _ _ _ _ _ _ _ f d l (descent_up _ _ _ _ _ _ _ _ d l) _ _ _ _ _ c.drain-len.ensures.peeled c.drain-len.ensures.counted

pub loop-low-preserved : goal.loop-low-preserved
loop-low-preserved g c =
    let f = g.met.P.Peeled.falls c.args.pool.now c.args.list.now in
    let d = c.loop-low.invariant.0 in
    let e = c.item_count-n.ensures in
    let l = subst (λ (v : ℕ). LowestCount v c.loop-low.living c.loop-low.counts c.in-Some.low) e c.in-Some.ensures in
    let p = c.drain-len.ensures.peeled in (
      descent_more _ _ _ _ _ _ _ _ f d l (descent_up _ _ _ _ _ _ _ _ d l) _ _ _ _ _ p c.drain-len.ensures.counted,
      omega (arith, p.fits, c.requires.tables.takes),
      descent_was _ _ _ _ _ _ _ _ _ _ _ _ d p,
      λ k. c.drain-len.ensures.same k ∙ c.loop-low.invariant.3 k,
    )

pub revive-requires : goal.revive-requires
revive-requires g c = λ k y. omega (arith, alive_below _ _ k (c.loop-low.invariant.2 k y), c.requires.tables.lives)

pub returns : goal.returns
returns g c =
    let sup = g.P.Peeled.support c.args.pool.now c.args.list.now in
    let N = g.P.Peeled.items c.args.pool.now c.args.list.now in
    let f = g.met.P.Peeled.falls c.args.pool.now c.args.list.now in
    let i = c.loop-low.invariant in
    let none = subst (λ (v : ℕ). (k : ℕ) → alive v c.loop-low.living k ≡ false) c.item_count-n.ensures c.in_default.ensures in
    let z : c.loop-low.next - 1 ≡ c.saturating_sub.result = sym c.saturating_sub.ensures in
    record {
      deepest = subst (λ (v : ℕ). DeepestIn sup N c.args.living.now c.revive.new.living v) z (descent_in sup N c.args.living.now c.loop-low.living c.loop-low.counts (take c.loop-low.len c.loop-low.taken) c.revive.new.living c.loop-low.next f i.0 none c.revive.ensures i.2);
      same = i.3;
    }
