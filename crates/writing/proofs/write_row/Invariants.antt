use Rattle.std.proofs.Common.{vec_items}
use Rattle.rows.specs.Rows.{listed}
use Rattle.writing.proofs.Uppers.{Written}
use Rattle.writing.proofs.write_row.Given as goal

abbrev pub invariant-loop-b : goal.invariant-loop-b
invariant-loop-b l =
    let s = l.b-iterator.source.now in
    Written (listed (vec_items l.form.offsets) (vec_items l.form.neighbours)) l.a (vec_items l.initial.out) (vec_items l.out) (listed (vec_items s.offsets) (vec_items s.neighbours)) l.b-iterator.vertex l.b-iterator.passed
