use Rattle.std.proofs.Common.{ℕ, ◌+◌, ◌≤◌, [], length}
use Rattle.graph.specs.Edges.{Good}
use Rattle.tally.specs.Laid.{Laid}
use Rattle.sheets.proofs.Lays.{LayingOn}
use Rattle.sheets.proofs.laying_out.lay_all.Given as goal

abbrev pub invariant-loop-e : goal.invariant-loop-e
invariant-loop-e l =
    (n : ℕ) → Good n l.edges → Laid n l.edges [] l.initial.laying → length l.edges + length l.edges ≤ length l.initial.neighbours
    → LayingOn n l.edges l.e-index l.laying l.initial.neighbours l.neighbours
