use Rattle.std.proofs.Common.{◌≡◌, ℕ, ◌+◌, ◌-◌, ◌<◌, ◌≤◌, List, ◌++◌, length, drop, replicate, is_ok, Ok, sym, refl, ap, ◌∙◌, subst, arith}
use Rattle.std.proofs.lemmas.List.{length-take-le, take_at}
use Rattle.std.proofs.lemmas.Bool.{false≢true}
use Rattle.degeneracy.specs.Order.{IsOrder, IsPeak}
use Rattle.climbing.specs.Climbs.{Climbs}
use Rattle.progress.proofs.Steps.{climb_holds}
use Rattle.progress.proofs.state.Progress.climb.Goals as goal

pub returns-in_err-new : goal.returns-in_err-new
returns-in_err-new g c climbs noes x =
    let G = g.S.Source.graph c.args.source.now in
    let p = c.args.self.now in
    let n = x.numbers in
    let e = c.as_slice-2.ensures.value in
    let l : p.held - p.climbed - 1 < length c.as_slice-2.result.now = subst (λ (xs : List ℕ). p.held - p.climbed - 1 < length xs) (sym e) (omega (arith, n.fits, c.if-climbed-held.false)) in
    let ok = c.climb_step.ensures.succeeds p.degeneracy (subst (IsOrder G) (sym e) n.order) (subst (λ xs. IsPeak G xs p.degeneracy) (sym e) n.peak) n.sparse l in
    absurd (false≢true (sym (ap (λ r. is_ok r) c.in_err-new.was) ∙ ok))

pub returns : goal.returns
returns g c climbs noes x =
    let G = g.S.Source.graph c.args.source.now in
    let p = c.args.self.now in
    let at = p.held - p.climbed - 1 in
    let len = length p.block.items in
    let new = c.in_ok-new.new in
    let after = c.climb_step.new.block in
    let rest = drop c.len-len.result (replicate 64 0) in
    let before = c.copy_from_slice.new.self ++ rest in
    let is : c.copy_from_slice.new.self ≡ p.block.items = c.copy_from_slice.ensures.after ∙ c.as_slice.ensures.value in
    let z = subst (λ xs. Climbs G xs at before after c.len-len.result new) c.as_slice-2.ensures.value c.in_ok-new.ensures.cases in
    let y = subst (λ (k : ℕ). Climbs G p.order.items at before after k new) c.len-len.ensures.value z in
    let low : new ≤ length after = omega (arith, y.bound (omega (arith, c.len-len.ensures.value, c.len-len.ensures.fits)), c.climb_step.array_long) in
    let size : length c.front-self.result.items ≡ new = ap (λ (xs : List ℕ). length xs) c.front-self.ensures ∙ length-take-le new after low in
    let front = take_at c.copy_from_slice.new.self rest len (ap (λ (xs : List ℕ). length xs) is) ∙ is in
    (ap (λ (k : ℕ). Ok k) (omega (arith, x.held, x.climbed)), climb_holds G climbs noes at new before after p _ x (omega (arith, x.climbed, c.if-climbed-held.false)) y front size c.front-self.ensures refl refl refl refl refl (ap (λ k. k + 1) x.climbed) refl c.standing_with-self.ensures)
