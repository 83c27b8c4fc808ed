use Rattle.std.proofs.Common.{◌≡◌, ℕ, ◌+◌, ◌&&◌, ltb, cond, List, [], length, get_or, take, sym, refl, ap, ◌∙◌, subst, arith}
use Rattle.std.proofs.lemmas.List.{take_all}
use Rattle.finite.specs.Finite.{count, has}
use Rattle.finite.proofs.Counts.{has_none, or_no}
use Rattle.supports.specs.Peel.{alive}
use Rattle.supports.proofs.Peels.{alive_below}
use Rattle.supports.proofs.Draining.{Lowered, draining_none, draining_more, draining_all, head_below, tail_le, losers_positive, fresh_losers}
use Rattle.supports.proofs.Queues.{lesser, lesser_all, lowered_from, drop_later}
use Rattle.peeling.proofs.drain.Goals as goal

pub loop-head-init : goal.loop-head-init
loop-head-init g c =
    let sup = g.P.Peeled.support c.args.pool.now c.args.list.now in
    let N = g.P.Peeled.items c.args.pool.now c.args.list.now in
    let living = c.args.living.now in
    let counts = c.args.counts.now in
    let k = c.args.least in
    let t = c.first_weak-tail.result in
    let xs = c.first_weak-tail.new.taken in
    let e = c.item_count-n.ensures in
    let q = c.first_weak-tail.ensures in
    let queue : (i : ℕ) → has (take t xs) i ≡ (alive N living i && ltb (get_or counts i 0) k) = λ i.
    (q.queue i ∙ or_no (has [] i) (lesser c.item_count-n.result living counts k c.item_count-n.result i) (has_none i) ∙ lesser_all c.item_count-n.result living counts k i ∙ ap (λ (v : ℕ). alive v living i && ltb (get_or counts i 0) k) e) in (
      draining_none sup N k living counts xs t c.requires.counted q.fits queue (subst (λ (v : ℕ). count (has (take t xs)) v ≡ t) e q.many),
      q.fits,
      omega arith,
      refl,
      λ i. refl,
    )

pub bounds-living-x : goal.bounds-living-x
bounds-living-x g c =
    let i = c.loop-head.invariant in
    omega (arith, head_below _ _ _ _ _ _ _ _ _ (g.met.P.Peeled.falls c.args.pool.now c.args.list.now) (omega (arith, c.requires.tables.lives)) i.0 (omega arith) i.1, c.requires.tables.lives)

pub lower-requires : goal.lower-requires
lower-requires g c =
    let N = g.P.Peeled.items c.args.pool.now c.args.list.now in
    let lo = c.losers-lost.ensures.losers in
    let i = c.loop-head.invariant in
    let e = c.item_count-n.ensures in
    let out = c.losers-lost.new.out in
    record {
      many = subst (λ (v : ℕ). count (has (take c.losers-lost.result out)) v ≡ length (take c.losers-lost.result out)) (sym e) lo.many;
      within = λ k y. omega (arith, alive_below N c.loop-head.living k (lo.member k y), c.requires.tables.counted);
      positive = losers_positive _ _ _ _ _ _ _ _ _ (g.met.P.Peeled.falls c.args.pool.now c.args.list.now) (omega (arith, c.requires.tables.lives)) i.0 (omega arith) i.1 (take c.losers-lost.result out) lo;
    }

pub push_fallen-tail-requires : goal.push_fallen-tail-requires
push_fallen-tail-requires g c =
    let N = g.P.Peeled.items c.args.pool.now c.args.list.now in
    let lo = c.losers-lost.ensures.losers in
    let i = c.loop-head.invariant in
    let e = c.item_count-n.ensures in
    let out = c.losers-lost.new.out in
    record {
      many = subst (λ (v : ℕ). count (has (take c.losers-lost.result out)) v ≡ length (take c.losers-lost.result out)) (sym e) lo.many;
      within = λ k y. omega (arith, alive_below N c.loop-head.living k (lo.member k y));
      counted = omega (arith, c.requires.tables.counted);
      takes = omega (arith, c.requires.tables.takes);
      queue = subst (λ (v : ℕ). count (has (take c.loop-head.tail c.loop-head.taken)) v ≡ c.loop-head.tail) (sym e) i.0.many;
      fresh = fresh_losers _ _ _ _ _ _ _ _ _ (g.met.P.Peeled.falls c.args.pool.now c.args.list.now) (omega (arith, c.requires.tables.lives)) i.0 (omega arith) i.1 (take c.losers-lost.result out) c.lower.new.counts lo c.lower.ensures;
    }

pub loop-head-smaller : goal.loop-head-smaller
loop-head-smaller g c =
    let i = c.loop-head.invariant in
    omega (arith, tail_le _ _ _ _ _ _ _ _ _ (g.met.P.Peeled.falls c.args.pool.now c.args.list.now) (omega (arith, c.requires.tables.lives)) i.0 (omega arith) i.1)

pub loop-head-preserved : goal.loop-head-preserved
loop-head-preserved g c =
    let sup = g.P.Peeled.support c.args.pool.now c.args.list.now in
    let N = g.P.Peeled.items c.args.pool.now c.args.list.now in
    let f = g.met.P.Peeled.falls c.args.pool.now c.args.list.now in
    let lo = c.losers-lost.ensures.losers in
    let i = c.loop-head.invariant in
    let e = c.item_count-n.ensures in
    let out = take c.losers-lost.result c.losers-lost.new.out in
    let q = c.push_fallen-tail.ensures in
    let tk : take (length out) out ≡ out = take_all (length out) out (omega arith) in
    let low = subst (λ (xs : List ℕ). (i : ℕ) → get_or c.loop-head.counts i 0 ≡ get_or c.lower.new.counts i 0 + cond (has xs i) 1 0) (sym tk) c.lower.ensures in
    let w : Lowered N c.args.least out c.loop-head.counts c.lower.new.counts c.loop-head.taken c.push_fallen-tail.new.taken c.loop-head.tail c.push_fallen-tail.result =
    subst (λ (v : ℕ). Lowered v c.args.least out c.loop-head.counts c.lower.new.counts c.loop-head.taken c.push_fallen-tail.new.taken c.loop-head.tail c.push_fallen-tail.result) e (subst (λ (xs : List ℕ). Lowered c.item_count-n.result c.args.least xs c.loop-head.counts c.lower.new.counts c.loop-head.taken c.push_fallen-tail.new.taken c.loop-head.tail c.push_fallen-tail.result) tk (lowered_from _ _ _ _ _ _ _ _ _ _ low q)) in (
      draining_more sup N c.args.least c.args.living.now c.loop-head.living c.loop-head.counts c.loop-head.taken c.loop-head.head c.loop-head.tail f (omega (arith, c.requires.tables.lives)) i.0 (omega arith) i.1 out c.lower.new.counts c.push_fallen-tail.new.taken c.push_fallen-tail.result lo w,
      q.fits,
      omega (arith, i.2, q.grows),
      q.rest ∙ drop_later c.loop-head.tail c.push_fallen-tail.result c.loop-head.taken c.first_weak-tail.new.taken q.grows i.3,
      λ k. c.losers-lost.ensures.same k ∙ i.4 k,
    )

pub returns : goal.returns
returns g c =
    let sup = g.P.Peeled.support c.args.pool.now c.args.list.now in
    let N = g.P.Peeled.items c.args.pool.now c.args.list.now in
    let i = c.loop-head.invariant in
    record {
      peeled = draining_all sup N c.args.least c.args.living.now c.loop-head.living c.loop-head.counts c.loop-head.taken c.args.taken.now c.loop-head.head c.loop-head.tail (g.met.P.Peeled.falls c.args.pool.now c.args.list.now) i.0 (omega arith) i.1 (i.3 ∙ drop_later c.first_weak-tail.result c.loop-head.tail c.first_weak-tail.new.taken c.args.taken.now i.2 c.first_weak-tail.ensures.rest);
      counted = i.0.counted;
      same = i.4;
    }
