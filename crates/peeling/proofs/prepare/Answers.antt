use Rattle.std.proofs.Common.{refl, arith}
use Rattle.peeling.proofs.Fitting.{wiped_clear, wiped_then}
use Rattle.peeling.proofs.prepare.Goals as goal

pub returns-then-not-index : goal.returns-then-not-index
returns-then-not-index g c = record { ready = refl; refused = (refl, c.index.ensures.test c.if-not-index.true) }

pub count_all-requires : goal.count_all-requires
count_all-requires g c =
    let f = c.requires.fits in
    record {
      ready = c.index.ensures.made c.if-not-index.false;
      lives = omega (arith, f.lives);
      counted = omega (arith, f.few, c.requires.counted);
      clear = wiped_clear c.mark_count.result _ c.args.marks.now c.wipe.new.marks c.mark_count.ensures (omega (arith, f.marked)) c.wipe.ensures;
    }

pub returns : goal.returns
returns g c =
    let w = wiped_then c.mark_count.result _ c.args.marks.now c.wipe.new.marks c.count_all.new.marks c.count_all.new.marks c.mark_count.ensures c.wipe.ensures c.count_all.ensures.same (λ k. refl) in
    record { ready = (c.index.ensures.made c.if-not-index.false, c.count_all.ensures.counted, w); refused = c.index.ensures.proper c.if-not-index.false }
