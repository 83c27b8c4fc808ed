use Rattle.std.proofs.Common.{ℕ, ◌+◌, List, ◌++◌, length, drop, refl, ap}
use Rattle.std.proofs.lemmas.Result.{err_from_is_err_and}
use Rattle.tally.proofs.Finishes.{Ended, finishes, breaks}
use Rattle.tally.proofs.laying.Laying.finish.Goals as goal

pub returns-in_err-judge : goal.returns-in_err-judge
returns-in_err-judge c =
    λ n es done s.
    let t = c.args.self.now in
    let w : Ended n es done t c.offsets-table.result = record { laid = s; small = t.small; few = t.few; empty = c.if-not-all_laid.ensures; long = c.offsets-table.ensures.len; first = c.offsets-table.ensures.first; ends = c.offsets-table.ensures.places } in
    let p = err_from_is_err_and c.from_residual.result c.from_residual.ensures.1 in
    rw (p.1, p.2) (
      breaks n es done t c.offsets-table.result _ _ c.args.neighbours.now (length c.args.offsets.now) _ w c.if-offsets-count.false c.if-neighbours-used.false refl refl c.in_err-judge.ensures,
      refl,
    )

pub returns : goal.returns
returns c =
    λ n es done s.
    let t = c.args.self.now in
    let w : Ended n es done t c.offsets-table.result = record { laid = s; small = t.small; few = t.few; empty = c.if-not-all_laid.ensures; long = c.offsets-table.ensures.len; first = c.offsets-table.ensures.first; ends = c.offsets-table.ensures.places } in
    finishes n es done t c.offsets-table.result _ _ c.args.neighbours.now c.args.offsets.now _ w c.if-offsets-count.false c.if-neighbours-used.false refl refl c.in_ok-judge.ensures
    (ap (λ (xs : List ℕ). xs ++ drop (t.n + 1) c.args.offsets.now) c.copy_from_slice.ensures.after)
