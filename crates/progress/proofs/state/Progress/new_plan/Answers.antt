use Rattle.std.proofs.Common.{length, replicate, refl, subst, arith}
use Rattle.putback.specs.Backs.{BackIn, BackRefused, Laid}
use Rattle.progress.proofs.Kernels.{new_plan, blank, back_fits}
use Rattle.progress.proofs.state.Progress.new_plan.Goals as goal

pub returns-in_err-put_back : goal.returns-in_err-put_back
returns-in_err-put_back g c climbs noes y =
    let G = g.S.Source.graph c.args.source.now in
    let p = c.args.self.now in
    let law = g.met.S.Source.lawful c.args.source.now in
    let r = subst (λ xs. BackRefused G.size xs (length c.lay.new.colours) c.in_err-put_back.field-0.0) c.as_slice-2.ensures.value c.in_err-put_back.ensures.0 in
    absurd (back_fits G p.taken.items (length c.lay.new.colours) _ (omega (arith, law.small, c.lay.auto.colours)) (y.kernel refl).left.peeled.taken r)

pub returns : goal.returns
returns g c climbs noes y =
    let G = g.S.Source.graph c.args.source.now in
    let p = c.args.self.now in
    let a = subst (λ xs. Laid xs p.found (replicate 1024 0) c.lay.new.colours) c.as_slice.ensures.value c.in_ok-lay.ensures in
    let b = subst (λ xs. BackIn G xs c.lay.new.colours c.put_back.new.colours) c.as_slice-2.ensures.value c.in_ok-put_back.ensures in
    new_plan G climbs noes p (replicate 1024 0) c.lay.new.colours c.put_back.new.colours (g.met.S.Source.lawful c.args.source.now) y (blank 1024) a b
