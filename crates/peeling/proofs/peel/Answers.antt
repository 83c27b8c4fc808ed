use Rattle.std.proofs.Common.{refl, ◌∙◌, arith}
use Rattle.peeling.proofs.Fitting.{wiped_clear}
use Rattle.peeling.proofs.peel.Goals as goal

pub drain-requires : goal.drain-requires
drain-requires g c =
    let f = c.in_ok-check.ensures in
    let r = c.in_ok-prepare.ensures.ready in
    record {
      ready = r.0;
      tables = record { few = f.few; lives = f.lives; counted = omega (arith, f.few); takes = f.takes; lost = omega (arith, f.few) };
      clear = wiped_clear _ _ c.args.marks.now c.prepare.new.marks refl (omega (arith, f.marked, c.prepare.auto.marks)) r.2;
      counted = r.1;
    }

pub returns : goal.returns
returns g c =
    let r = c.in_ok-prepare.ensures.ready in
    record {
      cases = (c.drain.ensures.peeled, λ k. c.drain.ensures.same k ∙ r.2 k);
      refused = (c.in_ok-check.ensures, c.in_ok-prepare.ensures.refused);
    }
