use Rattle.planner.proofs.Pulls.{reports, report_serves}
use Rattle.planner.proofs.planner.Planner.report.Goals as goal

pub returns : goal.returns
returns g c =
    let p = c.args.self.now in
    let law = g.met.S.Source.lawful p.layer.below in
    record {
      proves = λ G h x. (reports g.S.Source.graph G h p x _ c.report.ensures law).1;
      serves = λ G h x. report_serves g.S.Source.graph G h p x _ c.report.ensures law;
    }
