use Rattle.std.proofs.Common.{◌≡◌, ◌&&◌, not, eqb, length, get_or, take, refl, sym, ap, ◌∙◌, subst, arith, rules, get_or-set_other}
use Rattle.std.proofs.lemmas.Bool.{both_ways}
use Rattle.std.proofs.lemmas.List.{take_all}
use Rattle.finite.specs.Finite.{has}
use Rattle.finite.proofs.Counts.{count_le, has_at}
use Rattle.finite.proofs.Walking.{back_of}
use Rattle.graph.specs.Graph.{clash, held}
use Rattle.degeneracy.specs.Greedy.{Lowest, coloured_near}
use Rattle.peels.specs.Peels.{Taken, IsPutBack}
use Rattle.peels.proofs.Backs.{Back, back_none, back_more, back_all, put_coloured_max}
use Rattle.putback.specs.Backs.{paint}
use Rattle.putback.proofs.paint_back.Goals as goal

pub loop-x-init : goal.loop-x-init
loop-x-init g c =
    let rest = c.into_iter-x-iterator.result.iter.rest.now in
    let p = c.args.list.now in
    let w : rest ≡ p = search rules in
    let n : length rest ≡ length p = ap length w in (
      sym (take_all (length rest) rest (omega arith)) ∙ ap (take (length rest)) w,
      (λ tk. back_none (g.S.Source.graph c.args.source.now) p (length rest) c.clear.new.colours (omega arith) c.clear.ensures.cleared),
      (λ v n. refl),
    )

pub lowest_free-requires : goal.lowest_free-requires
unfolding coloured_near
lowest_free-requires g c =
    let G = g.S.Source.graph c.args.source.now in
    let lw = (g.met.S.Source.lawful c.args.source.now).small in
    record { fits = omega (arith, c.requires.room); small = omega arith; few = omega (arith, lw, count_le (λ b. clash G c.in-Some.x.now b && not (eqb (get_or c.loop-x.colours b 0) 0)) G.size) }

pub loop-x-preserved : goal.loop-x-preserved
loop-x-preserved g c =
    let G = g.S.Source.graph c.args.source.now in
    let p = c.args.list.now in
    let b = back_of p c.loop-x.x-iterator.iter.rest.now c.next.new.self.iter.rest.now c.in-Some.x.now c.loop-x.invariant.0 c.in-Some.ensures.steps in
    let i = length c.next.new.self.iter.rest.now in
    let l = b.within in
    let colours = c.loop-x.colours in
    let value = subst (λ v. Lowest G (held G) (λ w. get_or colours w 0) v c.lowest_free.result) b.is c.lowest_free.ensures.value in
    rw b.is (
      b.left,
      (λ tk. back_more G p i c.clear.new.colours colours _ (g.met.S.Source.lawful c.args.source.now) tk l (omega (arith, c.requires.listed i l, c.requires.room)) (subst (λ v. Back G p v c.clear.new.colours colours) b.up (c.loop-x.invariant.1 tk)) (subst (Lowest G (held G) (λ w. get_or colours w 0) (get_or p i 0)) (omega arith) value)),
      (λ v n. get_or-set_other colours (get_or p i 0) v _ 0 (λ q. both_ways (has p v) n (ap (has p) q ∙ has_at p i l)) ∙ c.loop-x.invariant.2 v n),
    )

pub returns : goal.returns
returns g c =
    let G = g.S.Source.graph c.args.source.now in
    let p = c.args.list.now in
    let old = c.args.colours.now in
    let new = c.loop-x.colours in
    let z : length c.loop-x.x-iterator.iter.rest.now ≡ 0 = c.in-None.ensures.steps.0 in
    let back : Taken G p → IsPutBack G p (paint old) (paint new) = λ tk. back_all G p old c.clear.new.colours new c.clear.ensures.keeps (subst (λ v. Back G p v c.clear.new.colours new) z (c.loop-x.invariant.1 tk)) in
    record {
      back = back;
      coloured = λ t k h s. put_coloured_max G p t k (paint old) (paint new) (g.met.S.Source.lawful c.args.source.now) h s (back h.taken);
      keeps = λ v n. c.loop-x.invariant.2 v n ∙ c.clear.ensures.keeps v n;
    }
