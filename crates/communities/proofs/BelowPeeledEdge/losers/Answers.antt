use Rattle.cohesion.proofs.Rounds.{wiped_same}
use Rattle.communities.proofs.BelowPeeledEdge.losers.Goals as goal

pub triangles-requires : goal.triangles-requires
triangles-requires c =
    record {
      member = c.requires.member;
      room = c.requires.clear.fits;
      clear = c.requires.clear.zero;
      lost = c.requires.lost;
    }

pub returns : goal.returns
returns c =
    record {
      losers = c.triangles.ensures.losers;
      fits = c.triangles.ensures.fits;
      same = wiped_same c.args.self.now.size c.args.marks.now c.triangles.new.marks c.drop-guard.new.self.0 c.requires.clear.zero c.triangles.ensures.rest c.drop-guard.ensures;
    }
