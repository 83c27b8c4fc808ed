use Rattle.std.proofs.Common.{◌≡◌, ℕ, ◌-◌, ◌<◌, ◌≤◌, Bool, true, false, List, length, get_or, take, drop, ap, ◌∙◌, arith, rules, tests, length-drop}
use Rattle.std.proofs.lemmas.List.{take_all}
use Rattle.finite.specs.Finite.{count, members}
use Rattle.pictures.specs.Pictures.{Draws}
use Rattle.climbing.specs.Climbs.{backward, picked}
use Rattle.climbing.proofs.Tails.{backward_short, table_few, tail_climbed}
use Rattle.listed_climb.proofs.tail.climb_tail.Given as given
use Rattle.listed_climb.proofs.tail.climb_tail.Goals as goal
use Rattle.listed_climb.proofs.tail.climb_tail.Goals.{After-picked_table}

whole : (p : List ℕ) (start : ℕ) → take (length p - start) (drop start p) ≡ drop start p
whole p start = take_all (length p - start) (drop start p) (omega (arith, length-drop start p))

pub returns-in_default-clause-block : goal.returns-in_default-clause-block
returns-in_default-clause-block g c =
    let p = c.args.order.now in
    let m = rw (whole p c.args.start) at (c.in_default.ensures (λ _. true) (λ x r q. search (rules, tests))) in
    absurd (omega (arith, m, backward_short (λ _. true) (drop c.args.start p), length-drop c.args.start p, c.requires.few))

-- the vertices from the start on, the last first
written : (g : given.Over) (c : goal.After-picked_table g) → c.in-Some.chosen.items ≡ backward (λ _. true) (drop c.args.start c.args.order.now)
written g c = c.in-Some.ensures (λ _. true) (λ x r q. search (rules, tests)) ∙ ap (backward (λ _. true)) (whole c.args.order.now c.args.start)

short : (g : given.Over) (c : goal.After-picked_table g) → length c.in-Some.chosen.items ≤ 64
short g c =
    let p = c.args.order.now in
    omega (arith, ap length (written g c), backward_short (λ _. true) (drop c.args.start p), length-drop c.args.start p, c.requires.few)

-- what is marked is what was picked
marked : (g : given.Over) (c : goal.After-picked_table g) (x : ℕ) → x < (g.S.Source.graph c.args.source.now).size → get_or c.picked_table.result x false ≡ picked c.in-Some.chosen.items c.climb_picture-mask.result.mask x
marked g c x l =
    let law = g.met.S.Source.lawful c.args.source.now in
    (rw c.deref-2.ensures.0 at c.picked_table.ensures.places) x (omega (arith, law.small))

few : (g : given.Over) (c : goal.After-picked_table g) → count (λ x. get_or c.picked_table.result x false) (g.S.Source.graph c.args.source.now).size ≤ 64
few g c =
    omega (arith, table_few (λ x. get_or c.picked_table.result x false) c.in-Some.chosen.items c.climb_picture-mask.result.mask (g.S.Source.graph c.args.source.now).size (marked g c), short g c)

pub write_block-requires-clause-few : goal.write_block-requires-clause-few
write_block-requires-clause-few g c = rw c.size.ensures (few g (goal.at.write_block-requires-clause-few g c).After-picked_table)

pub returns-clause-bound : goal.returns-clause-bound
returns-clause-bound g c =
    let a = (goal.at.returns-clause-bound g c).After-picked_table in
    let t : ℕ → Bool = λ x. get_or c.picked_table.result x false in
    omega (arith, few g a, c.write_block.ensures.len ∙ ap (count t) c.size.ensures)

pub returns-clause-block : goal.returns-clause-block
returns-clause-block g c once =
    let a = (goal.at.returns-clause-block g c).After-picked_table in
    let t : ℕ → Bool = λ x. get_or c.picked_table.result x false in
    let d : Draws (g.S.Source.graph c.args.source.now) c.deref.result.now c.unwrap-picture.result = search rules in
    tail_climbed (g.S.Source.graph c.args.source.now) c.args.order.now c.in-Some.chosen.items c.args.start (written g a) c.requires.within c.unwrap-picture.result (rw c.deref.ensures.0 at d) once
    c.climb_picture-mask.result.mask c.climb_picture-mask.result.len c.write_block.result c.write_block.new.block t c.climb_picture-mask.ensures (marked g a)
    (c.write_block.ensures.len ∙ ap (count t) c.size.ensures) (c.write_block.ensures.items ∙ ap (members t) c.size.ensures)
