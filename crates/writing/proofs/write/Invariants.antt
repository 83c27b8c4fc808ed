use Rattle.std.proofs.Common.{◌≡◌, ◌++◌, vec_items}
use Rattle.std.specs.List.{flat_map}
use Rattle.graph.specs.Edges.{edges_below}
use Rattle.rows.specs.Rows.{listed}
use Rattle.grammar.specs.Sheet.{edge_row}
use Rattle.writing.proofs.write.Given as goal

abbrev pub invariant-loop-a : goal.invariant-loop-a
invariant-loop-a l =
    vec_items l.out ≡ vec_items l.initial.out ++ flat_map edge_row (edges_below (listed (vec_items l.form.offsets) (vec_items l.form.neighbours)) l.a)
