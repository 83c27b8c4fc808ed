use Rattle.std.proofs.Common.{◌≡◌, ℕ, ◌<◌, get_or}
use Rattle.graph.specs.Graph.{degree}
use Rattle.order.proofs.fill_degrees.Given as goal

abbrev pub invariant-loop-c : goal.invariant-loop-c
invariant-loop-c g l = (k : ℕ) → k < l.c → get_or l.with-items k 0 ≡ degree (g.S.Source.graph l.source) k
