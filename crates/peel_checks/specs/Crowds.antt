-- 182 vertices that are all joined.
use Rattle.std.specs.Prelude.{true, not, ◌==◌}
use Rattle.graph.specs.Graph.{Graph}

abbrev pub crowd : Graph
crowd = record { size = 182; listed = λ c. true; joined = λ a b. not (a == b) }
