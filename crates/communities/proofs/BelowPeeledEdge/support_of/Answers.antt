use Rattle.std.proofs.Common.{length, arith}
use Rattle.supports.specs.Peel.{alive}
use Rattle.cohesion.specs.Common.{edge_at, linked}
use Rattle.cohesion.proofs.Places.{smaller, below}
use Rattle.cohesion.proofs.Links.{common_le}
use Rattle.cohesion.proofs.Rounds.{counted_common, rounds_same}
use Rattle.communities.proofs.BelowPeeledEdge.support_of.Goals as goal

pub raise-requires : goal.raise-requires
raise-requires c =
    let n = c.args.self.now.size in
    let r = c.requires.ready.listing.rising in
    record {
      within = omega (arith, smaller n c.args.list.now r c.args.i c.requires.within, below n c.args.list.now r c.args.i c.requires.within);
      room = c.requires.clear.fits;
      differ = λ e. omega arith;
    }

pub raise-requires-2 : goal.raise-requires-2
raise-requires-2 c =
    let n = c.args.self.now.size in
    let r = c.requires.ready.listing.rising in
    record {
      within = below n c.args.list.now r c.args.i c.requires.within;
      room = omega (arith, c.requires.clear.fits, c.raise.auto.marks);
      differ = λ e. omega arith;
    }

pub returns : goal.returns
returns c =
    let n = c.args.self.now.size in
    let list = c.args.list.now in
    let S = alive (length list) c.args.living.now in
    let e = edge_at list c.args.i in
    let v = counted_common n list S c.args.i c.args.marks.now c.raise.new.marks c.raise-2.result c.requires.clear.zero c.raise.ensures.marks c.raise-2.ensures.total in
    record {
      value = v;
      bound = omega (arith, v, common_le n list S c.args.i, c.requires.ready.listing.small);
      same = rounds_same n (linked list S e.a) (linked list S e.b) c.args.marks.now c.raise.new.marks c.raise-2.new.marks c.requires.clear.zero c.raise.ensures.marks c.raise-2.ensures.marks c.drop-guard.new.self.0 c.drop-guard.ensures;
    }
