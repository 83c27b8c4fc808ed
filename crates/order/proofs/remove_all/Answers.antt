use Rattle.std.proofs.Common.{◌≡◌, ◌<◌, ◌≤◌, false, ◌⊎◌, max, get_or, length, take, set, sym, refl, ◌∙◌, subst, arith, rules}
use Rattle.std.proofs.lemmas.List.{length-set, length-take-le, take_more_set, drop-set-lt}
use Rattle.graph.specs.Graph.{vertices, inside}
use Rattle.degeneracy.specs.Order.{survivors, Next}
use Rattle.degeneracy.proofs.Orders.{peak_degeneracy}
use Rattle.degeneracy.proofs.Removal.{State, state_none, state_next, state_pos, state_more, state_all, removed_room}
use Rattle.order.proofs.remove_all.Given
use Rattle.order.proofs.remove_all.Goals as goal
use Rattle.order.proofs.remove_all.Goals.{In-Some}

pub loop-x-init : goal.loop-x-init
loop-x-init g c = let lw = g.met.S.Source.lawful c.args.source.now in (
  search rules,
  search rules,
  omega arith,
  state_none (g.S.Source.graph c.args.source.now) c.fill_alive.new.alive c.fill_degrees.new.left (λ k l. c.fill_alive.ensures k l) (λ k l. c.fill_degrees.ensures k l),
  refl,
)

-- what was found is the next in the order, and there is room for it
found : (g : Given.Over) (c : In-Some g) → Next (g.S.Source.graph c.args.source.now) (survivors (g.S.Source.graph c.args.source.now) (take c.loop-x.len c.loop-x.order)) c.in-Some.x × (c.loop-x.len < vertices (g.S.Source.graph c.args.source.now)) × (c.loop-x.len < length c.loop-x.order)
found g c =
    let G = g.S.Source.graph c.args.source.now in
    let p = take c.loop-x.len c.loop-x.order in
    let n = state_next G p c.loop-x.alive c.loop-x.left c.loop-x.most c.size-n.result c.in-Some.x c.loop-x.invariant.3 c.size-n.ensures c.in-Some.ensures in
    let r = removed_room G p c.loop-x.most c.in-Some.x c.loop-x.invariant.3.removed n in
    let e = length-take-le c.loop-x.len c.loop-x.order c.loop-x.invariant.2 in
    (n, omega arith, omega (arith, c.requires))

pub bounds-order-len : goal.bounds-order-len
bounds-order-len g c = (found g (goal.at.bounds-order-len g c).In-Some).2

pub take_out-requires : goal.take_out-requires
take_out-requires g c =
    let lw = g.met.S.Source.lawful c.args.source.now in
    record { fits = omega (arith, lw.small); living = state_pos _ _ _ _ _ _ lw c.loop-x.invariant.3 (found g (goal.at.take_out-requires g c).In-Some).0 }

pub loop-x-smaller : goal.loop-x-smaller
loop-x-smaller g c = omega (arith, (found g (goal.at.loop-x-smaller g c).In-Some).2)

pub loop-x-preserved : goal.loop-x-preserved
loop-x-preserved g c =
    let G = g.S.Source.graph c.args.source.now in
    let lw = g.met.S.Source.lawful c.args.source.now in
    let p = take c.loop-x.len c.loop-x.order in
    let x = c.in-Some.x in
    let m = c.max-most.result in
    let s = c.loop-x.invariant.3 in
    let f = found g (goal.at.loop-x-preserved g c).In-Some in
    let w = s.lefts x f.0.within in
    let e : m ≡ max c.loop-x.most (get_or c.loop-x.left x 0) = search rules in
    let ways : (c.loop-x.most ≤ m) × (inside G (survivors G p) x ≤ m) × ((m ≡ c.loop-x.most) ⊎ (m ≡ inside G (survivors G p) x)) = (omega (arith, e), omega (arith, e, w), grind (arith, e, w)) in
    let more = state_more G p c.loop-x.alive c.loop-x.left c.take_out.new.left c.loop-x.most m x lw (omega (arith, lw.small, c.loop-x.invariant.0)) s f.0 c.take_out.ensures ways.0 ways.1 ways.2 in (
      simp length-set c.loop-x.invariant.0,
      search rules,
      simp length-set (omega (arith, f.2)),
      subst (λ q. State G q (set c.loop-x.alive x false) c.take_out.new.left m) (sym (take_more_set c.loop-x.order c.loop-x.len x f.2)) more,
      drop-set-lt (vertices G) c.loop-x.order c.loop-x.len x f.1 ∙ c.loop-x.invariant.4,
    )

pub returns : goal.returns
returns g c =
    let G = g.S.Source.graph c.args.source.now in
    let p = take c.loop-x.len c.loop-x.order in
    let s = c.loop-x.invariant.3 in
    let a = state_all G p c.loop-x.alive c.loop-x.left c.loop-x.most s (λ k l. c.in_default.ensures k (omega (arith, c.size-n.ensures))) in
    let v : c.loop-x.len ≡ vertices G = sym (length-take-le c.loop-x.len c.loop-x.order c.loop-x.invariant.2) ∙ a.0 in
    record { len_is = v; fits = c.loop-x.invariant.2; order = a.1; peak = s.removed.peak; degeneracy = peak_degeneracy G p c.loop-x.most a.1 s.removed.peak; rest = rw v c.loop-x.invariant.4 }
