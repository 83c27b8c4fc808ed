use Rattle.std.proofs.Common.{◌≡◌, ℕ, length, get_or, ◌∙◌, subst, arith, rules, tests}
use Rattle.stamps.specs.Near.{near}
use Rattle.grids.specs.Draws.{Drawn}
use Rattle.grids.proofs.Draws.{drawn_none, drawn_all}
use Rattle.pictures.specs.Pictures.{joined, paired}
use Rattle.pictures.proofs.listing.draw_listed.Goals as goal

pub loop-i-init : goal.loop-i-init
loop-i-init g c =
    let G = g.S.Source.graph c.args.source.now in
    (c.blank-picture.ensures.size, drawn_none (paired G c.args.chosen.now) (joined c.blank-picture.result) c.blank-picture.ensures.none)

pub loop-i-preserved : goal.loop-i-preserved
loop-i-preserved g c =
    let G = g.S.Source.graph c.args.source.now in
    let law = g.met.S.Source.lawful c.args.source.now in
    let xs = c.args.chosen.now in (
      c.join_near.ensures.size ∙ c.loop-i.invariant.0,
      c.join_near.ensures.drawn (paired G xs) (λ a b. law.both (get_or xs a 0) (get_or xs b 0)) (λ a. law.never (get_or xs a 0)) (λ j r h e. (let is : r ≡ near c.turn_to.new.self (get_or xs j 0) = search (rules, tests) in is ∙ c.turn_to.ensures (get_or xs j 0))) c.loop-i.invariant.1,
    )

pub returns : goal.returns
returns g c =
    let E = paired (g.S.Source.graph c.args.source.now) c.args.chosen.now in
    let J = joined c.loop-i.picture in
    let end : c.loop-i.i ≡ length c.args.chosen.now = omega arith in
    record {
      few = omega arith;
      size = c.loop-i.invariant.0;
      joins = drawn_all E J (length c.args.chosen.now) (subst (λ (k : ℕ). Drawn E J k 0) end c.loop-i.invariant.1);
    }
