use Rattle.std.proofs.Common.{◌≡◌, ◌≤◌, length, get_or, sym, refl, ◌∙◌, arith, rules}
use Rattle.std.proofs.lemmas.List.{length-take-le, length-replicate}
use Rattle.kernels.specs.Kernels.{paired}
use Rattle.placings.proofs.Rows.{rows_none, rows_more, rows_front}
use Rattle.kernels.proofs.shape.Kernel.draw.Goals as goal

pub loop-i-init : goal.loop-i-init
loop-i-init g c =
    let xs = c.args.chosen.now in
    rows_none (paired (g.S.Source.graph c.args.source.now) xs) (length xs) _

pub loop-i-preserved : goal.loop-i-preserved
loop-i-preserved g c =
    let xs = c.args.chosen.now in
    rows_more (paired (g.S.Source.graph c.args.source.now) xs) (length xs) c.loop-i.i c.row_of.result c.loop-i.row-items (omega (arith, c.loop-i-test.true, c.loop-i.auto.row-items)) c.loop-i.invariant c.row_of.ensures

pub invariant_of-self : goal.invariant_of-self
invariant_of-self g c =
    let xs = c.args.chosen.now in
    let lw = g.met.S.Source.lawful c.args.source.now in
    let e : c.loop-i.i ≡ length xs = search (rules, length-take-le, length-replicate) in
    let l : c.loop-i.i ≤ length c.loop-i.row-items = search rules in
    let s = rows_front (paired (g.S.Source.graph c.args.source.now) xs) (length xs) c.loop-i.i c.loop-i.row-items _ l c.loop-i.invariant in
    record {
      small = c.if-count-gt256.false;
      even = λ i j l. s i j (omega (arith, l.0)) l.1 ∙ lw.both (get_or xs i 0) (get_or xs j 0) ∙ sym (s j i (omega (arith, l.1)) l.0);
      loopless = λ i l. s i i (omega arith) l ∙ lw.never (get_or xs i 0);
    }

pub returns : goal.returns
returns g c =
    let xs = c.args.chosen.now in
    let e : c.loop-i.i ≡ length xs = search (rules, length-take-le, length-replicate) in
    let l : c.loop-i.i ≤ length c.loop-i.row-items = search rules in
    let s = rows_front (paired (g.S.Source.graph c.args.source.now) xs) (length xs) c.loop-i.i c.loop-i.row-items _ l c.loop-i.invariant in
    (c.if-count-gt256.false, record { size = refl; joins = λ i j a b. s i j (omega arith) b })
