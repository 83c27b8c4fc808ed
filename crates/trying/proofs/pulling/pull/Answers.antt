use Rattle.std.proofs.Common.{◌≡◌, ◌≤◌, arith, rules}
use Rattle.std.proofs.lemmas.Result.{err_from_is_err_and}
use Rattle.finite.specs.Finite.{count, members}
use Rattle.finite.proofs.Counts.{count_le}
use Rattle.supports.specs.Peel.{alive}
use Rattle.trying.proofs.Pulls.{pull_wide, pull_drawn}
use Rattle.trying.proofs.pulling.pull.Goals as goal

pub returns-in_err-draw : goal.returns-in_err-draw
returns-in_err-draw g c =
    let G = g.S.Source.graph c.args.source.now in
    let p = err_from_is_err_and c.from_residual-in_err-draw.result c.from_residual-in_err-draw.ensures.1 in
    let u = c.in_err-draw.ensures in
    let m : c.unwrap-chosen.result.items ≡ members (alive c.size.result c.core.new.living) c.size.result = search rules in
    rw (p.1, p.2) (u.0, pull_wide G c.args.least _ c.core.new.living c.args.taken.now c.core.new.taken _ _ c.in_ok-gone.gone c.size.result c.in_ok-gone.ensures c.size.ensures m c.as_slice.ensures.value u.1)

pub returns : goal.returns
returns g c =
    let G = g.S.Source.graph c.args.source.now in
    let u = c.in_ok-draw.ensures in
    let m : c.unwrap-chosen.result.items ≡ members (alive c.size.result c.core.new.living) c.size.result = search rules in
    let small = (g.met.S.Source.lawful c.args.source.now).small in
    let z = c.size.ensures in
    let f = c.in_ok-gone.ensures.fits in
    (omega arith, pull_drawn G c.args.least _ c.core.new.living c.args.taken.now c.core.new.taken _ _ c.in_ok-gone.gone c.size.result c.in_ok-gone.ensures z m c.as_slice.ensures.value _ u.0 u.1)

pub unwrap-chosen-requires : goal.unwrap-chosen-requires
unwrap-chosen-requires g c =
    let n = c.size.result in
    let small = (g.met.S.Source.lawful c.args.source.now).small in
    let h : count (alive n c.core.new.living) n ≤ 1024 = omega (arith, count_le (alive n c.core.new.living) n, c.size.ensures) in
    search rules
