-- A laying that begins.
use Rattle.std.specs.Prelude.{◌≡◌, ℕ, List, [], length}
use Rattle.graph.specs.declared.edge.Edge.{Edge}
use Rattle.tally.specs.declared.state.calls.Totals.{Totals}
use Rattle.tally.specs.Laid.{Laid}

-- the totals of these edges, and a laying for their rows that has laid nothing
pub record Begun (n : ℕ) (es : List Edge) (t : Totals) : Type 0 where
  pub size : t.n ≡ n
  pub count : t.clashes ≡ length es
  pub laying : Laid n es [] t.laying
