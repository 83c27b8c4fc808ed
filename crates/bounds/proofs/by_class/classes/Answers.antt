use Rattle.std.proofs.Common.{ℕ, ◌<◌, Bool, ◌&&◌, ltb, length, get_or, set, ap, ◌∙◌, arith}
use lib.Bits.{bit_or}
use Rattle.std.proofs.lemmas.List.{length-set}
use Rattle.arrayvec.proofs.ArrayVecLemmas.{items-with_items}
use Rattle.finite.specs.Masks.{bit}
use Rattle.finite.proofs.Masks.{one_at}
use Rattle.grids.proofs.Walks.{stands_none, stands_all, stands_room, stands_new, stands_at}
use Rattle.bounds.proofs.by_class.classes.Goals as goal

pub loop-i-init : goal.loop-i-init
loop-i-init c =
    rw (c.new-made.ensures, c.into_iter-i-iterator.ensures.into_iter_gives, c.of-i-items.ensures)
    (stands_none c.args.p.now.rows c.args.mask c.args.p.now.count c.meet.result
    (λ j. c.meet.ensures.members j ∙ ap (λ (v : Bool). bit c.args.mask j && v) (c.below.ensures j ∙ ap (ltb j) (omega (arith, c.count.ensures.value)))))

pub push-requires : goal.push-requires
push-requires c =
    let s = c.in-Some.ensures.steps in
    let room : length c.loop-i.made.items < 64 = stands_room _ _ _ _ _ _ c.loop-i.invariant s.0 s.1 in
    (omega arith, room)

pub loop-i-preserved : goal.loop-i-preserved
loop-i-preserved c =
    let s = c.in-Some.ensures.steps in
    let f = rw c.deref.ensures.0 at c.in-None-fit.ensures in
    rw c.push.ensures.items (stands_new _ _ _ _ _ _ c.loop-i.invariant s.0 s.1 s.2 _ s.3 _ (c.row.ensures ∙ ap (λ (k : ℕ). get_or c.args.p.now.rows k 0) (omega arith)) _ (one_at c.in-Some.i s.0) f)

pub loop-i-preserved-in-Some-fit : goal.loop-i-preserved-in-Some-fit
loop-i-preserved-in-Some-fit c =
    let s = c.in-Some.ensures.steps in
    let f = rw c.deref.ensures.0 at c.in-Some-fit.ensures in
    let v = c.deref_mut.ensures.value in
    rw (items-with_items c.loop-i.made (set c.deref_mut.result.now _ _) (length-set _ _ _ ∙ ap length v), v)
    (stands_at _ _ _ _ _ _ c.loop-i.invariant s.0 s.1 s.2 _ s.3 _ (c.row.ensures ∙ ap (λ (k : ℕ). get_or c.args.p.now.rows k 0) (omega arith)) _ _ (ap (bit_or _) (one_at c.in-Some.i s.0)) (omega (arith, f.0)) (omega (arith, f.1)))

pub returns : goal.returns
returns c =
    record {
      value = stands_all _ _ _ _ _ c.loop-i.invariant c.in-None.ensures.steps.0;
      bound = omega (arith, c.loop-i.invariant.few);
    }
