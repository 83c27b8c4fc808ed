use Rattle.std.proofs.Common.{vec_items, ◌∙◌}
use Rattle.running.proofs.Matches.{run_from}
use Rattle.running.proofs.strings.run.Goals as goal

pub returns : goal.returns
returns g c =
    run_from g.S.Source.graph (g.S.Source.graph c.args.source) c.open-planner.result c.carry_out-back.new.planner c.args.calls.now (vec_items c.reserve.new.self) (vec_items c.carry_out-back.new.replies) (g.met.S.Source.lawful c.args.source) c.open-planner.ensures (c.reserve.ensures.items ∙ c.new-replies.ensures.items) c.carry_out-back.ensures.carried
