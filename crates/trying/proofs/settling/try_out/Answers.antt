use Rattle.std.proofs.Common.{refl, inr}
use Rattle.std.proofs.lemmas.Result.{err_from_is_err_and}
use Rattle.trying.proofs.Pulls.{pulled_same}
use Rattle.trying.proofs.settling.try_out.Goals as goal

pub settle-requires : goal.settle-requires
settle-requires g c =
    record {
      number = c.in_ok-first.ensures;
      pulled = pulled_same (g.S.Source.graph c.args.source.now) c.in_ok-first.first _ _ _ _ c.pull.new.kernel c.as_slice.ensures.value refl c.in_ok-chosen.ensures.1;
    }

pub returns-in_err-chosen : goal.returns-in_err-chosen
returns-in_err-chosen g c =
    let p = err_from_is_err_and c.from_residual-in_err-chosen.result c.from_residual-in_err-chosen.ensures.1 in
    let u = c.in_err-chosen.ensures in
    rw (p.1, p.2) (inr (u.0, record { number = c.in_ok-first.first; clique = c.in_ok-first.ensures; wide = u.1 }))
