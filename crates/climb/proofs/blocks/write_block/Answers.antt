use Rattle.std.proofs.Common.{ℕ, ◌+◌, ◌<◌, Bool, true, false, get_or, take, sym, ap, ◌∙◌, arith, List, length, length-take, get_or-take, ◌≡◌}
use Rattle.finite.proofs.Counts.{count_zero, count_more_yes, count_more_no}
use Rattle.climbing.proofs.Blocks.{block_none, block_yes, block_no}
use Rattle.climbing.proofs.Tails.{table_room}
use Rattle.climb.proofs.blocks.write_block.Goals as goal
use Rattle.climb.proofs.blocks.write_block.Goals.{then-marked, else-marked}

pub loop-c-init : goal.loop-c-init
loop-c-init c =
    let t : ℕ → Bool = λ k. get_or c.args.table.now k false in
    (sym (count_zero t), block_none t c.args.block.now)

-- the table at a place below n
at_place : (xs : List Bool) (n c : ℕ) (b : Bool) → c < length (take n xs) → get_or (take n xs) c false ≡ b → get_or xs c false ≡ b
at_place xs n c b l e = sym (get_or-take n xs c false (omega (arith, length-take n xs))) ∙ e

room : (c : goal.Then-marked) → c.loop-c.len < 64
room c =
    let h = table_room (λ k. get_or c.args.table.now k false) c.loop-c.c c.args.n (omega (arith, length-take c.args.n c.args.table.now)) (at_place c.args.table.now c.args.n _ _ c.loop-c-test.true (grind (arith, c.if-marked.true))) c.requires.few in
    omega (arith, c.loop-c.invariant.0)

pub offset_bounds-block-len : goal.offset_bounds-block-len
offset_bounds-block-len c = omega (arith, room c)

pub bounds-block-len : goal.bounds-block-len
bounds-block-len c = omega (arith, room c)

pub overflow_add-len : goal.overflow_add-len
overflow_add-len c = omega (arith, room c)

pub loop-c-preserved : goal.loop-c-preserved
loop-c-preserved c =
    let t : ℕ → Bool = λ k. get_or c.args.table.now k false in
    elim c.if-marked.branch [
      | then-marked w ↦ let y = at_place c.args.table.now c.args.n c.loop-c.c true c.loop-c-test.true (grind (arith, w.if-marked.true)) in let h = table_room t c.loop-c.c c.args.n (omega (arith, length-take c.args.n c.args.table.now)) y c.requires.few in (
        omega (arith, w.len-is, c.loop-c.invariant.0, count_more_yes t c.loop-c.c y),
        ap (λ (k : ℕ). take k c.if-marked.block) w.len-is ∙ ap (take (c.loop-c.len + 1)) w.block-is ∙ block_yes t c.loop-c.block c.loop-c.len c.loop-c.c c.loop-c.invariant.1 (omega (arith, c.loop-c.invariant.0)) y,
      )
      | else-marked w ↦ let z = at_place c.args.table.now c.args.n c.loop-c.c false c.loop-c-test.true (grind (arith, w.if-marked.false)) in (
        omega (arith, w.len-is, c.loop-c.invariant.0, count_more_no t c.loop-c.c z),
        ap (λ (k : ℕ). take k c.if-marked.block) w.len-is ∙ ap (take c.loop-c.len) w.block-is ∙ block_no t c.loop-c.block c.loop-c.len c.loop-c.c c.loop-c.invariant.1 z,
      )
    ]
