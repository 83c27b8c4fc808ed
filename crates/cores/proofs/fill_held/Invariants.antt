use Rattle.std.proofs.Common.{◌≡◌, ℕ, cond, ltb, get_or}
use Rattle.graph.specs.Graph.{held}
use Rattle.cores.proofs.fill_held.Given as goal

abbrev pub invariant-loop-c : goal.invariant-loop-c
invariant-loop-c g l = (k : ℕ) → get_or l.living k 0 ≡ cond (ltb k l.c) (cond (held (g.S.Source.graph l.source) k) 1 0) (get_or l.initial.living k 0)
