use Rattle.std.proofs.Common.{ℕ, ◌+◌, ◌-◌, sym, subst, arith}
use Rattle.finite.specs.Finite.{count}
use Rattle.finite.specs.Masks.{bit}
use Rattle.searching.specs.Climbed.{Climbed}
use Rattle.searching.proofs.Climbs.{climbed_same, climbed_more}
use Rattle.searching.proofs.Search.{few_inside}
use Rattle.listed_climb.proofs.tail.climb_place.Goals as goal

pub returns-in-Some : goal.returns-in-Some
returns-in-Some g c =
    subst (λ (n : ℕ). Climbed c.args.p.now (c.args.v + 1) c.with.result (n + 1)) (sym c.size-in-Some.ensures.value)
    (climbed_more _ _ _ _ c.below.result c.row.result c.meet-later.result c.requires.climbed (omega arith) c.requires.within c.below.ensures c.row.ensures c.meet-later.ensures.members c.in-Some.found c.with.result c.in-Some.ensures.0 c.in-Some.ensures.1 c.with.ensures)

pub returns-in-None : goal.returns-in-None
returns-in-None g c =
    climbed_same _ _ _ _ c.below.result c.row.result c.meet-later.result c.requires.climbed (omega arith) c.requires.within c.below.ensures c.row.ensures c.meet-later.ensures.members (c.args.best.len - 1) c.in-None.ensures.1 (omega (arith, c.in-None.ensures.0))

pub returns-then-size-best : goal.returns-then-size-best
returns-then-size-best g c =
    climbed_same _ _ _ _ c.below.result c.row.result c.meet-later.result c.requires.climbed (omega arith) c.requires.within c.below.ensures c.row.ensures c.meet-later.ensures.members (count (bit c.meet-later.result) 64) (few_inside c.args.p.now c.meet-later.result) (omega (arith, c.if-size-best.true, c.size.ensures.value))
