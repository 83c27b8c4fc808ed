use Rattle.degeneracy.proofs.Orders.{order_one, peak_degeneracy, degeneracy_one, degeneracy_none}
use Rattle.degeneracy.proofs.Cores.{degeneracy_core, core_degeneracy}
use Rattle.order.proofs.orders_stand.Goals as goal

pub returns : goal.returns
returns c =
    record { order = order_one; peak = peak_degeneracy; one = degeneracy_one; core = λ g d. (degeneracy_core g d, core_degeneracy g d); none = degeneracy_none }
