use Rattle.std.proofs.Common.{◌≡◌, ℕ, ◌+◌, ◌-◌, min, ltb, ap, ◌∙◌, arith}
use Rattle.kernels.specs.Kernels.{places, joined}
use Rattle.placings.proofs.Words.{open_from}
use Rattle.trials.proofs.Task.open.Goals as goal

pub returns : goal.returns
returns c =
    let q = c.args.self.now.kernel.now in
    let top : ℕ = min c.args.self.now.k (c.args.used + 1) in
    let e : c.min.result ≡ min (top - c.args.base) 64 = omega (arith, c.min.ensures, c.saturating_sub.ensures, c.min-top.ensures) in
    open_from (places q) (joined q) c.args.table.now c.args.c c.args.base top c.below-low.result c.taken_near.result c.minus.result c.taken_near.ensures q.small (λ j. c.below-low.ensures j ∙ ap (ltb j) e) c.minus.ensures
