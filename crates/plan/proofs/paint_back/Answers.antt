use Rattle.std.proofs.Common.{◌≡◌, ◌+◌, ◌≤◌, ◌++◌, length, get_or, take, drop, sym, ap, ◌∙◌, subst, cond, arith, rules}
use Rattle.std.proofs.lemmas.Bool.{lt-ltb}
use Rattle.std.proofs.lemmas.List.{drop_at, length-take-le, take_all}
use Rattle.finite.proofs.Walking.{back_of}
use Rattle.finite.proofs.Tables.{filled_at}
use Rattle.degeneracy.specs.Greedy.{Lowest, coloured_near}
use Rattle.graph.specs.Graph.{held}
use Rattle.degeneracy.proofs.Plans.{Painted, painted_none, painted_more, painted_few, painted_all}
use Rattle.plan.proofs.Rests.{rest_more}
use Rattle.plan.proofs.paint_back.Goals as goal

pub loop-x-init : goal.loop-x-init
loop-x-init g c =
    let G = g.S.Source.graph c.args.source.now in
    let rest = c.into_iter-x-iterator.result.iter.rest.now in
    let w : rest ≡ c.args.order.now = search rules in
    let n = c.size.result in
    let l : length c.fill.new.self ≡ n = c.fill.ensures.len ∙ length-take-le n c.args.colours.now (omega (arith, c.requires.fits, c.size.ensures)) in (
      sym (take_all (length rest) rest (omega arith)) ∙ ap (take (length rest)) w,
      painted_none G c.args.order.now _ _ (omega (arith, ap length w)) (λ k h. filled_at c.fill.new.self c.args.colours.now n 0 k (omega (arith, c.requires.fits, c.size.ensures)) (c.fill.ensures.after (λ y q. q)) ∙ ap (λ t. cond t 0 (get_or c.args.colours.now k 0)) (lt-ltb k n (omega (arith, c.size.ensures)))),
      subst (λ m. drop m (c.fill.new.self ++ drop n c.args.colours.now) ≡ drop m c.args.colours.now) c.size.ensures (drop_at c.fill.new.self _ n l),
    )

pub lowest_free-requires : goal.lowest_free-requires
lowest_free-requires g c =
    let G = g.S.Source.graph c.args.source.now in
    let p = c.args.order.now in
    let b = back_of p c.loop-x.x-iterator.iter.rest.now c.next.new.self.iter.rest.now c.in-Some.x.now c.loop-x.invariant.0 c.in-Some.ensures.steps in
    let i = length c.next.new.self.iter.rest.now in
    let s = subst (λ v. Painted G p v c.loop-x.colours) b.up c.loop-x.invariant.1 in
    let few = painted_few G p i c.loop-x.colours s (c.requires.few i b.within) in
    record { fits = omega (arith, c.requires.fits); small = omega arith; few = subst (λ v. coloured_near G c.loop-x.colours v + 2 ≤ 65) (sym b.is) (omega (arith, few)) }

pub loop-x-preserved : goal.loop-x-preserved
loop-x-preserved g c =
    let G = g.S.Source.graph c.args.source.now in
    let p = c.args.order.now in
    let b = back_of p c.loop-x.x-iterator.iter.rest.now c.next.new.self.iter.rest.now c.in-Some.x.now c.loop-x.invariant.0 c.in-Some.ensures.steps in
    let i = length c.next.new.self.iter.rest.now in
    let nx = c.requires.order.each i b.within in
    let f = c.lowest_free.ensures in
    let colours = c.loop-x.colours in
    let value = subst (λ v. Lowest G (held G) (λ w. get_or colours w 0) v c.lowest_free.result) b.is f.value in
    rw b.is (
      b.left,
      painted_more G p i colours _ (g.met.S.Source.lawful c.args.source.now) c.requires.order b.within (omega (arith, c.requires.fits)) (subst (λ v. Painted G p v colours) b.up c.loop-x.invariant.1) (subst (Lowest G (held G) (λ w. get_or colours w 0) (get_or p i 0)) (omega arith) value) (omega (arith, f.bound)),
      rest_more G.size colours _ (get_or p i 0) _ nx.within c.loop-x.invariant.2,
    )

pub returns : goal.returns
returns g c =
    let G = g.S.Source.graph c.args.source.now in
    let z : length c.loop-x.x-iterator.iter.rest.now ≡ 0 = c.in-None.ensures.steps.0 in
    record { plan = painted_all G c.args.order.now c.loop-x.colours (subst (λ v. Painted G c.args.order.now v c.loop-x.colours) z c.loop-x.invariant.1); rest = c.loop-x.invariant.2 }
