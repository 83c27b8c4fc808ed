use Rattle.std.proofs.Common.{◌≡◌, ℕ, ◌<◌, false, get_or}
use Rattle.graph.specs.Graph.{held}
use Rattle.order.proofs.fill_alive.Given as goal

abbrev pub invariant-loop-c : goal.invariant-loop-c
invariant-loop-c g l = (k : ℕ) → k < l.c → get_or l.lives-items k false ≡ held (g.S.Source.graph l.source) k
