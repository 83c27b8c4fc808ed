use Rattle.std.proofs.Common.{Bool, false, ◌||◌, eqb, List, length, get_or, sym, refl, ap, ◌∙◌, arith}
use Rattle.std.proofs.lemmas.List.{get_or-replicate}
use Rattle.climbing.proofs.Tails.{table_none, table_yes, table_no, table_all}
use Rattle.climb.proofs.blocks.picked_table.Goals as goal
use Rattle.climb.proofs.blocks.picked_table.Goals.{then-has, else-has}

pub loop-i-init : goal.loop-i-init
loop-i-init c = (refl, λ k l. get_or-replicate 1024 k false false l ∙ table_none c.args.chosen.now c.args.mask k)

pub loop-i-preserved : goal.loop-i-preserved
loop-i-preserved c =
    let q = c.args.chosen.now in
    let m = c.args.mask in
    let i = c.loop-i.i in
    elim c.if-has.branch [
      | then-has w ↦ (
        ap (λ (t : List Bool). length t) w.table-is ∙ w.mark.ensures.len,
        λ k l. ap (λ (t : List Bool). get_or t k false) w.table-is ∙ w.mark.ensures.places k l ∙ ap (λ (b : Bool). eqb (get_or q i 0) k || b) (c.loop-i.invariant.1 k l) ∙ table_yes q m i k (sym c.has.ensures ∙ w.if-has.true),
      )
      | else-has w ↦ (
        ap (λ (t : List Bool). length t) w.table-is ∙ c.loop-i.invariant.0,
        λ k l. ap (λ (t : List Bool). get_or t k false) w.table-is ∙ c.loop-i.invariant.1 k l ∙ table_no q m i k (sym c.has.ensures ∙ w.if-has.false),
      )
    ]

pub returns : goal.returns
returns c =
    record {
      places = λ k l. c.loop-i.invariant.1 k l ∙ table_all c.args.chosen.now c.args.mask c.loop-i.i k (omega arith);
      len = c.loop-i.invariant.0;
    }
