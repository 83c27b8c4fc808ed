use Rattle.std.proofs.Common.{◌≡◌, ℕ, ◌+◌, ◌<◌, Bool, length, get_or, min, take, sym, subst, arith, length-take, get_or-take}
use Rattle.kernels.specs.Kernels.{paired}
use Rattle.placings.proofs.Rows.{Row, row_none, row_yes, row_no}
use Rattle.kernels.proofs.shape.edits.row_of.Goals as goal
use Rattle.kernels.proofs.shape.edits.row_of.Goals.{then-clashes, else-clashes}

pub loop-j-init : goal.loop-j-init
loop-j-init g c = row_none _

pub loop-j-preserved : goal.loop-j-preserved
loop-j-preserved g c =
    let j = c.loop-j.j in
    let C : ℕ → Bool = paired (g.S.Source.graph c.args.source.now) c.args.chosen.now c.args.i in
    let xs = c.args.chosen.now in
    let long : (n : ℕ) → length (take n xs) ≡ min n (length xs) = λ n. length-take n xs in
    let front : (n : ℕ) → j < n → get_or (take n xs) j 0 ≡ get_or xs j 0 = λ n h. get_or-take n xs j 0 h in
    let within : j < length xs = grind (arith, long, c.loop-j-test.true) in
    let jl : j < 256 = omega (arith, c.requires.few, within) in
    let P = Row C (j + 1) in
    elim c.if-clashes.branch [
      | then-clashes w ↦ subst P (sym w.row-is) (row_yes C j w.with.result c.loop-j.row jl c.loop-j.invariant (grind (arith, front, long, c.loop-j-test.true, w.if-clashes.true, c.clashes.ensures)) w.with.ensures)
      | else-clashes w ↦ subst P (sym w.row-is) (row_no C j c.loop-j.row jl c.loop-j.invariant (grind (arith, front, long, c.loop-j-test.true, w.if-clashes.false, c.clashes.ensures)))
    ]

pub returns : goal.returns
returns g c j l =
    let xs = c.args.chosen.now in
    let long : (n : ℕ) → length (take n xs) ≡ min n (length xs) = λ n. length-take n xs in
    c.loop-j.invariant.done j (grind (arith, long, c.loop-j-test.false))
