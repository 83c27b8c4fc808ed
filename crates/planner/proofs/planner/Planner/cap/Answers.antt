use Rattle.std.proofs.Common.{length}
use Rattle.planner.proofs.Buffers.{caps, caps_refused}
use Rattle.planner.proofs.planner.Planner.cap.Goals as goal

pub returns : goal.returns
returns g c = record {
  cases = λ G h x. caps g.S.Source.graph G h c.args.self.now x c.cap.result c.args.clashes.now c.cap.new.clashes c.args.living.now c.cap.new.living c.args.marks.now c.cap.new.marks c.cap.ensures.cases;
  refused = λ G h x. caps_refused g.S.Source.graph G h c.args.self.now x c.cap.result (length c.args.clashes.now) (length c.args.living.now) (length c.args.marks.now) c.cap.ensures.refused;
}
