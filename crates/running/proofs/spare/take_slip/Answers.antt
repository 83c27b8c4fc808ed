use Rattle.running.proofs.Spares.{spare_pulled}
use Rattle.running.proofs.spare.take_slip.Goals as goal

pub unreachable-requires : goal.unreachable-requires
unreachable-requires c =
    spare_pulled c.in-Err.field-0 c.args.spare.now c.pull.new.self c.requires c.in-Err.ensures
