use Rattle.running.proofs.Spares.{spare_opened}
use Rattle.running.proofs.spare.open_spare.Goals as goal

pub returns : goal.returns
returns c = spare_opened c.order.result c.open-spare.result c.order.new.self c.open-spare.ensures c.order.ensures
