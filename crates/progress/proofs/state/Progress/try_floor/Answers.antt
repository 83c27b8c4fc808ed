use Rattle.std.proofs.Common.{◌≡◌, ◌+◌, ◌≤◌, refl, arith, rules}
use Rattle.std.proofs.lemmas.Bool.Decides.{when_true, when_false}
use Rattle.progress.proofs.Kernels.{try_yes, try_no, tried_yes, tried_no, floor_low}
use Rattle.trials.specs.Trials.{Tried}
use Rattle.progress.proofs.state.Progress.try_floor.Goals as goal

pub returns-then-won : goal.returns-then-won
returns-then-won c g x law y =
    let p = c.args.self.now in
    let o = y.kernel refl in
    let t : Tried p.kernel p.floor p.found c.colour.new.table c.unwrap-won.result = search rules in
    let w = (when_true _ _ c.if-won.true t).colours in
    tried_yes g x _ c.unwrap-won.result c.if-won.true (try_yes g x p y _ (record { held = refl; degeneracy = refl; order = refl; block = refl; size = refl }) refl refl refl refl refl (record { core = o.core; left = o.left; lists = o.lists; draws = o.draws }) w w)

pub returns-else-won : goal.returns-else-won
returns-else-won c g x law y =
    let p = c.args.self.now in
    let o = y.kernel refl in
    let t : Tried p.kernel p.floor p.found c.colour.new.table c.unwrap-won.result = search rules in
    let w = (when_false _ _ c.if-won.false t).none in
    let l : p.floor ≤ 64 = floor_low g x p y law in
    let e : c.saturating_add-self.result ≡ p.floor + 1 = omega (arith, l, c.saturating_add-self.ensures) in
    tried_no g x _ c.unwrap-won.result c.if-won.false (try_no g x p y _ (record { held = refl; degeneracy = refl; order = refl; block = refl; size = refl }) refl e refl refl refl (record { core = o.core; left = o.left; lists = o.lists; draws = o.draws }) w)
