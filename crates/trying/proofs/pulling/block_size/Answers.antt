use Rattle.std.proofs.Common.{is_ok, sym, refl, ap, ◌∙◌}
use Rattle.std.proofs.lemmas.Result.{err_from_is_err_and}
use Rattle.std.proofs.lemmas.Bool.{false≢true}
use Rattle.climbing.proofs.Later.{order_once}
use Rattle.trying.proofs.Pulls.{block_number, order_dense}
use Rattle.trying.proofs.pulling.block_size.Goals as goal

pub returns-in_err-ordered : goal.returns-in_err-ordered
returns-in_err-ordered g c =
    let G = g.S.Source.graph c.args.source.now in
    let p = err_from_is_err_and c.from_residual.result c.from_residual.ensures.1 in
    let small = (g.met.S.Source.lawful c.args.source.now).small in
    rw (p.1, p.2) (order_dense G _ _ small refl c.in_err-ordered.ensures.0)

pub returns-in_err-count : goal.returns-in_err-count
returns-in_err-count g c =
    let G = g.S.Source.graph c.args.source.now in
    let p = c.in_ok-ordered.ensures in
    let q = p.0 in
    let yes-it = c.climb_all.ensures.succeeds c.in_ok-ordered.ordered.degeneracy q.order q.peak p.1 in
    absurd (false≢true (sym (ap (λ r. is_ok r) c.in_err-count.was) ∙ yes-it))

pub returns : goal.returns
returns g c =
    let G = g.S.Source.graph c.args.source.now in
    block_number G c.climb_all.new.block c.in_ok-count.count (c.in_ok-count.ensures.cases.2 (order_once G _ c.in_ok-ordered.ensures.0.order))
