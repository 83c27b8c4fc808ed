use Rattle.std.proofs.Common.{arith}
use Rattle.sheets.proofs.Lays.{laid_into, finish_never}
use Rattle.sheets.proofs.laying_out.lay_out.Goals as goal

pub returns-in_err-lay_all : goal.returns-in_err-lay_all
returns-in_err-lay_all c =
    λ g l r.
    let b = c.totals.ensures c.args.n c.args.edges.now (c.in_ok-tally_all.ensures g) in
    absurd (c.in_err-lay_all.ensures c.args.n g b.laying r)

pub returns-in_err-finish : goal.returns-in_err-finish
returns-in_err-finish c =
    λ g l r.
    let b = c.totals.ensures c.args.n c.args.edges.now (c.in_ok-tally_all.ensures g) in
    let w = c.in_ok-lay_all.ensures c.args.n g b.laying r in
    let u = c.in_err-finish.ensures c.args.n c.args.edges.now c.args.edges.now w.0 in
    absurd (finish_never c.args.n c.args.edges.now c.lay_all.new.neighbours _ _ g w.1 l (omega (arith, c.lay_all.auto.neighbours)) u.0)

pub returns : goal.returns
returns c =
    λ g l r.
    let b = c.totals.ensures c.args.n c.args.edges.now (c.in_ok-tally_all.ensures g) in
    let w = c.in_ok-lay_all.ensures c.args.n g b.laying r in
    let f = c.in_ok-finish.ensures c.args.n c.args.edges.now c.args.edges.now w.0 in
    laid_into c.args.n c.args.edges.now _ _ _ _ g w.1 w.2 f
