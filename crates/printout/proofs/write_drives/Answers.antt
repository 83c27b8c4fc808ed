use Rattle.std.proofs.Common.{◌≡◌, ℕ, ◌++◌, ◌∷◌, [], length, vec_items, ap, ◌∙◌, arith}
use Rattle.fields.specs.Rows.{numbers_line}
use Rattle.printout.specs.Printed.{drive_lines}
use Rattle.printout.proofs.Prints.{drives_none, drives_more}
use Rattle.printout.proofs.write_drives.Goals as goal

pub loop-c-init : goal.loop-c-init
loop-c-init c = drives_none c.args.colours.now _

pub loop-c-preserved : goal.loop-c-preserved
loop-c-preserved c =
    let e = c.in_ok-write_numbers.ensures ∙ ap (λ (v : ℕ). vec_items c.loop-c.out ++ numbers_line 100 (c.loop-c.c ∷ v ∷ [])) c.from.ensures in
    drives_more c.args.colours.now _ _ _ c.loop-c.c c.loop-c.invariant e

pub returns : goal.returns
returns c =
    let z : c.loop-c.c ≡ length c.args.colours.now = omega arith in
    c.loop-c.invariant ∙ ap (λ (i : ℕ). vec_items c.args.out.now ++ drive_lines c.args.colours.now i) z
