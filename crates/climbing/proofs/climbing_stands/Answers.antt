use Rattle.climbing.proofs.Later.{order_once, order_few}
use Rattle.climbing.proofs.Numbers.{some_largest, one_number, later_number, all_climbed}
use Rattle.climbing.proofs.Blocks.{climb_start}
use Rattle.climbing.proofs.climbing_stands.Goals as goal

pub returns : goal.returns
returns c = record { some = some_largest; one = one_number; number = later_number; none = climb_start; all = all_climbed; once = order_once; few = order_few }
