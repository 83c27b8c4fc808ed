use Rattle.std.proofs.Common.{◌≤◌, ◌++◌, ltb, length, get_or, drop, refl, ◌∙◌, arith, length-append, length-drop, length-take}
use Rattle.finite.proofs.Tables.{filled_at}
use Rattle.std.proofs.lemmas.List.{length-set}
use Rattle.std.proofs.lemmas.Bool.{cond-true, lt-ltb}
use Rattle.cohesion.proofs.Places.{smaller, below}
use Rattle.cohesion.proofs.Raises.{chaining_none, chaining_more, chaining_all}
use Rattle.communities.proofs.walks.chain.Goals as goal

pub loop-j-init : goal.loop-j-init
loop-j-init c =
    let filled : 33792 ≤ length (c.fill.new.self ++ drop c.args.n c.args.table.now) = omega (arith, c.requires.long, length-append c.fill.new.self (drop c.args.n c.args.table.now), length-drop c.args.n c.args.table.now, length-take c.args.n c.args.table.now, c.fill.ensures.len) in
    chaining_none c.args.n c.args.list.now _ filled (λ u h. filled_at c.fill.new.self c.args.table.now c.args.n 0 u (omega (arith, c.requires.long, c.requires.listing.small)) (c.fill.ensures.after (λ y q. q)) ∙ cond-true (ltb u c.args.n) 0 (get_or c.args.table.now u 0) (lt-ltb u c.args.n h))

pub bounds-table-a : goal.bounds-table-a
bounds-table-a c =
    let r = c.requires.listing.rising in
    omega (arith, smaller c.args.n c.args.list.now r c.loop-j.j (omega arith), below c.args.n c.args.list.now r c.loop-j.j (omega arith), c.requires.listing.small, c.loop-j.invariant.long)

pub bounds-table-b : goal.bounds-table-b
bounds-table-b c =
    let r = c.requires.listing.rising in
    simp length-set (omega (arith, below c.args.n c.args.list.now r c.loop-j.j (omega arith), c.requires.listing.small, c.loop-j.invariant.long))

pub bounds-table-a-in-loop-j : goal.bounds-table-a-in-loop-j
bounds-table-a-in-loop-j c =
    let r = c.requires.listing.rising in
    simp length-set (omega (arith, smaller c.args.n c.args.list.now r c.loop-j.j (omega arith), below c.args.n c.args.list.now r c.loop-j.j (omega arith), c.requires.listing.small, c.loop-j.invariant.long))

pub bounds-table-b-in-loop-j : goal.bounds-table-b-in-loop-j
bounds-table-b-in-loop-j c =
    let r = c.requires.listing.rising in
    simp length-set (omega (arith, below c.args.n c.args.list.now r c.loop-j.j (omega arith), c.requires.listing.small, c.loop-j.invariant.long))

pub loop-j-preserved : goal.loop-j-preserved
loop-j-preserved c =
    chaining_more c.args.n c.args.list.now c.loop-j.table c.loop-j.j _ _ c.requires.listing.small c.requires.listing.rising c.requires.few (omega arith) c.loop-j.invariant refl refl

pub returns : goal.returns
returns c =
    chaining_all c.args.n c.args.list.now c.loop-j.table c.loop-j.j c.requires.listing.small c.requires.listing.rising c.requires.few (omega arith) c.loop-j.invariant
