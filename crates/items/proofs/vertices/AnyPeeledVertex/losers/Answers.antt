use Rattle.std.proofs.Common.{◌≡◌, ◌+◌, [], sym, refl, subst, arith}
use Rattle.finite.specs.Finite.{has}
use Rattle.finite.proofs.Counts.{count_empty, has_none}
use Rattle.supports.specs.Peel.{alive}
use Rattle.supports.proofs.Peels.{alive_yes, alive_no}
use Rattle.supports.proofs.Queues.{Queue, queue_none, queue_skip, queue_push, queue_room, queue_fresh}
use Rattle.cohesion.proofs.Near.{near, near_none, near_yes, near_no, near_out, near_losers}
use Rattle.graph.proofs.Walks.{next_of, last_of}
use Rattle.items.proofs.vertices.AnyPeeledVertex.losers.Goals as goal

pub loop-b-init : goal.loop-b-init
loop-b-init g c =
    let G = g.S.Source.graph c.args.self.now in
    let N = near G (alive G.size c.args.living.now) c.args.x in
    let e = c.of-b-items.ensures in
    let q = queue_none G.size (N 0) c.args.out.now 0 (omega arith) (count_empty (has []) G.size (λ k l. has_none k)) (near_none G (alive G.size c.args.living.now) c.args.x) in
    subst (λ i. ((g.S.Source.graph i.source.now ≡ G) × (i.vertex ≡ c.args.x)) × Queue G.size (N i.passed) c.args.out.now c.args.out.now 0 0) (sym c.into_iter-b-iterator.ensures.into_iter_gives) ((e.source, e.vertex), subst (λ v. Queue G.size (N v) c.args.out.now c.args.out.now 0 0) (sym e.start) q)

pub bounds-living-b : goal.bounds-living-b
bounds-living-b g c =
    let n = next_of c.loop-b.invariant.0 c.in-Some.ensures.steps in
    omega (arith, n.is.0, c.requires.lives)

pub bounds-out-len : goal.bounds-out-len
bounds-out-len g c =
    let G = g.S.Source.graph c.args.self.now in
    let A = alive G.size c.args.living.now in
    let r = (next_of c.loop-b.invariant.0 c.in-Some.ensures.steps).is in
    let q = c.loop-b.invariant.1 in
    let h = queue_room G.size _ c.args.out.now c.loop-b.out 0 c.loop-b.len c.in-Some.b q (omega (arith, c.requires.lost)) r.0 (queue_fresh _ _ _ _ _ _ q (near_out G A c.args.x c.loop-b.b-iterator.passed c.in-Some.b r)) in
    omega (arith, c.requires.lost)

pub loop-b-preserved-then-living-b-eq1 : goal.loop-b-preserved-then-living-b-eq1
loop-b-preserved-then-living-b-eq1 g c =
    let G = g.S.Source.graph c.args.self.now in
    let A = alive G.size c.args.living.now in
    let x = c.args.x in
    let j = c.loop-b.b-iterator.passed in
    let q = c.loop-b.invariant.1 in
    let old = c.args.out.now in
    let n = next_of c.loop-b.invariant.0 c.in-Some.ensures.steps in
    let b = c.in-Some.b in
    (n.here, rw n.passed (queue_push G.size (near G A x j) old c.loop-b.out 0 c.loop-b.len b q (omega (arith, c.requires.lost)) n.is.0 (queue_fresh G.size (near G A x j) old c.loop-b.out c.loop-b.len b q (near_out G A x j b n.is)) (near G A x (j + 1)) (near_yes G A x j b n.is (alive_yes G.size c.args.living.now b n.is.0 c.if-living-b-eq1.true))))

pub loop-b-preserved : goal.loop-b-preserved
loop-b-preserved g c =
    let G = g.S.Source.graph c.args.self.now in
    let A = alive G.size c.args.living.now in
    let x = c.args.x in
    let j = c.loop-b.b-iterator.passed in
    let n = next_of c.loop-b.invariant.0 c.in-Some.ensures.steps in
    let b = c.in-Some.b in
    (n.here, rw n.passed (queue_skip G.size (near G A x j) (near G A x (j + 1)) c.args.out.now c.loop-b.out 0 c.loop-b.len c.loop-b.invariant.1 (near_no G A x j b n.is (alive_no G.size c.args.living.now b c.if-living-b-eq1.false))))

pub returns : goal.returns
returns g c =
    let G = g.S.Source.graph c.args.self.now in
    let A = alive G.size c.args.living.now in
    record {
      losers = near_losers G (g.met.S.Source.lawful c.args.self.now) A c.args.x c.loop-b.b-iterator.passed c.args.out.now c.loop-b.out c.loop-b.len c.requires.member (omega (arith, last_of c.loop-b.invariant.0 c.in-None.ensures.steps)) c.loop-b.invariant.1 c.loop-b.invariant.1.fits;
      fits = c.loop-b.invariant.1.fits;
      same = λ k. refl;
    }
