use Rattle.std.proofs.Common.{◌≡◌, ◌≤◌, ◌++◌, length, take, vec_items, ap, ◌∙◌, arith}
use Rattle.std.proofs.lemmas.List.{length-take-le}
use Rattle.rows.proofs.Props.{sound_of}
use Rattle.rows.specs.Rows.{rows}
use Rattle.printout.specs.Printed.{drive_lines}
use Rattle.printout.proofs.Prints.{drives_take}
use Rattle.trying.specs.Shown.{try_lines}
use Rattle.trying.proofs.show_form.Goals as goal

pub returns : goal.returns
returns c =
    let small = (sound_of c.args.form.now.sound).small in
    let n = c.size.result in
    let z = c.size.ensures in
    let t = c.in_ok-trial.trial in
    let col = c.try_out.new.colours in
    let l : n ≤ length col = omega arith in
    let front : drive_lines (take n col) (length (take n col)) ≡ drive_lines col (rows (vec_items c.args.form.now.offsets)) =
    ap (drive_lines (take n col)) (length-take-le n col l) ∙ drives_take col n n (omega arith) ∙ ap (drive_lines col) z in
    record {
      first = t.first;
      drives = t.drives;
      plan = col;
      tried = c.in_ok-trial.ensures;
      text = c.in_ok-text.ensures ∙ ap (λ xs. try_lines t.first t.drives ++ xs) front;
    }
