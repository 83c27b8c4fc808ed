use Rattle.std.proofs.Common.{◌≡◌, ℕ, ◌-◌, ◌<◌, ◌≤◌, ◌⊎◌, length, get_or, take, List, sym, ◌∙◌, inl, inr, subst, arith}
use Rattle.std.proofs.lemmas.List.{get_or-take, length-take-le}
use Rattle.graph.specs.Colourings.{Coloured}
use Rattle.degeneracy.specs.Greedy.{IsPlan}
use Rattle.degeneracy.proofs.Plans.{plan_proper, plan_few, plan_low, plan_coloured, plan_reached}
use Rattle.colourings.proofs.Used.{used_most, used_least}
use Rattle.plan.proofs.plan.Goals as goal

-- what is reached in a front is reached
reached : (top n : ℕ) (xs : List ℕ) {m : ℕ} → n ≤ length xs → n ≡ m → (top ≡ 0) ⊎ ((k : ℕ) × (k < length (take n xs)) × (get_or (take n xs) k 0 ≡ top)) → (top ≡ 0) ⊎ ((k : ℕ) × (k < m) × (get_or xs k 0 ≡ top))
reached top n xs l e (inl z) = inl z
reached top n xs l e (inr h) =
    let b : h.0 < n = omega (arith, h.1, length-take-le n xs l) in
    inr (h.0, omega arith, sym (get_or-take n xs h.0 0 b) ∙ h.2)

pub returns : goal.returns
returns g c =
    let G = g.S.Source.graph c.args.source.now in
    let lw = g.met.S.Source.lawful c.args.source.now in
    let o = c.in_ok-ordered.ensures.0 in
    let n = c.in_ok-ordered.ordered.len in
    let p = take n c.removal_order.new.order in
    let e : n - 0 ≡ n = omega arith in
    let size = c.size-n.ensures in
    let top = c.highest-drives.result in
    let new = c.paint_back.new.colours in
    let n-size = c.size-n.result in
    let fits : n-size ≤ length new = omega arith in
    let h = c.highest-drives.ensures in
    let col : ℕ → ℕ = λ v. get_or c.paint_back.new.colours v 0 in
    let w : IsPlan G p col = subst (λ v. IsPlan G (take v c.removal_order.new.order) col) e c.paint_back.ensures.plan in
    let all : Coloured G top col = plan_coloured G p col top lw o.order w (λ k l. subst (λ v. v ≤ top) (get_or-take n-size new k 0 (omega arith)) (h.bound k (omega (arith, length-take-le n-size new fits)))) in
    let each = plan_reached G p col top o.order w (reached top n-size new fits size h.found) in (
      record {
        ordered = o;
        plan = w;
        proper = plan_proper G p col lw o.order w;
        few = plan_few G p col c.in_ok-ordered.ordered.degeneracy o.order o.peak w;
        low = plan_low G p col o.order w;
        drives_are = omega (arith, used_most G top col all, used_least G top col each);
        coloured = all;
        rest = c.paint_back.ensures.rest;
      },
      c.in_ok-ordered.ensures.1,
    )
