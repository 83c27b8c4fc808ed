use Rattle.std.proofs.Common.{[], length, arith, rules}
use Rattle.finite.specs.Finite.{has}
use Rattle.finite.proofs.Counts.{count_empty, has_none}
use Rattle.supports.specs.Peel.{alive}
use Rattle.supports.proofs.Peels.{alive_below}
use Rattle.cohesion.specs.Common.{edge_at, linked}
use Rattle.cohesion.proofs.Places.{smaller, below}
use Rattle.cohesion.proofs.Rounds.{gathered_fresh, gathered_losers, rounds_rest}
use Rattle.communities.proofs.walks.Edges.triangles.Goals as goal

pub offset_bounds-self-x : goal.offset_bounds-self-x
offset_bounds-self-x c =
    let w = alive_below _ _ _ c.requires.member in
    let f = c.args.self.now.chained.few in
    search rules

pub bounds-self-x : goal.bounds-self-x
bounds-self-x c = alive_below _ _ _ c.requires.member

pub raise-requires : goal.raise-requires
raise-requires c =
    let n = c.args.self.now.n in
    let r = c.args.self.now.chained.listing.rising in
    let l = alive_below _ _ _ c.requires.member in
    record {
      within = omega (arith, smaller n c.args.self.now.list.now r c.args.x l, below n c.args.self.now.list.now r c.args.x l);
      room = c.requires.room;
      differ = λ e. omega arith;
    }

pub raise-requires-2 : goal.raise-requires-2
raise-requires-2 c =
    let n = c.args.self.now.n in
    let r = c.args.self.now.chained.listing.rising in
    record {
      within = below n c.args.self.now.list.now r c.args.x (alive_below _ _ _ c.requires.member);
      room = omega (arith, c.requires.room, c.raise.auto.marks);
      differ = λ e. omega arith;
    }

pub gather-some-requires : goal.gather-some-requires
gather-some-requires c =
    let n = c.args.self.now.n in
    let r = c.args.self.now.chained.listing.rising in
    let l = alive_below _ _ _ c.requires.member in
    record {
      within = omega (arith, smaller n c.args.self.now.list.now r c.args.x l, below n c.args.self.now.list.now r c.args.x l);
      room = omega (arith, c.requires.room, c.raise.auto.marks, c.raise-2.auto.marks);
      lost = c.requires.lost;
      many = count_empty (has []) (length c.args.self.now.list.now) (λ k h. has_none k);
      fresh = λ k y. has_none k;
    }

pub gather-requires : goal.gather-requires
gather-requires c =
    let n = c.args.self.now.n in
    let list = c.args.self.now.list.now in
    let r = c.args.self.now.chained.listing.rising in
    let l = alive_below _ _ _ c.requires.member in
    let S = alive (length list) c.args.self.now.living.now in
    record {
      within = below n list r c.args.x l;
      room = omega (arith, c.requires.room, c.raise.auto.marks, c.raise-2.auto.marks);
      lost = omega (arith, c.requires.lost, c.gather-some.auto.out);
      many = c.gather-some.ensures.many;
      fresh = gathered_fresh n list r S c.args.x l c.requires.member (λ k y. alive_below (length list) c.args.self.now.living.now k y) c.args.marks.now c.raise.new.marks c.raise-2.new.marks c.requires.clear c.raise.ensures.marks c.raise-2.ensures.marks c.args.out.now c.gather-some.new.out c.gather-some.result c.gather-some.ensures;
    }

pub returns : goal.returns
returns c =
    let n = c.args.self.now.n in
    let list = c.args.self.now.list.now in
    let r = c.args.self.now.chained.listing.rising in
    let l = alive_below _ _ _ c.requires.member in
    let S = alive (length list) c.args.self.now.living.now in
    let e = edge_at list c.args.x in
    record {
      losers = gathered_losers n list r S c.args.x l c.requires.member (λ k y. alive_below (length list) c.args.self.now.living.now k y) c.args.marks.now c.raise.new.marks c.raise-2.new.marks c.requires.clear c.raise.ensures.marks c.raise-2.ensures.marks c.args.out.now c.gather-some.new.out c.gather.new.out c.gather-some.result c.gather.result c.gather-some.ensures c.gather.ensures;
      fits = c.gather.ensures.fits;
      rest = rounds_rest n (linked list S e.a) (linked list S e.b) c.args.marks.now c.raise.new.marks c.raise-2.new.marks c.requires.clear c.raise.ensures.marks c.raise-2.ensures.marks;
    }
