use Rattle.std.proofs.Common.{◌≡◌, ℕ, [], ◌∷◌, ◌++◌, length, refl, sym, ◌∙◌, subst, arith}
use Rattle.std.proofs.lemmas.Bool.{eqb-true}
use Rattle.climbing.specs.Climbs.{backward}
use Rattle.climbing.proofs.Blocks.{gather_yes, gather_no, gather_full, gather_all}
use Rattle.climb.proofs.gathering.gather.Goals as goal

pub loop-c-init : goal.loop-c-init
loop-c-init g c t is = rw (c.new-found.ensures, c.into_iter-c-iterator.ensures.into_iter_gives, c.rev-c-items.ensures.source, c.iter.ensures.rest) refl

pub loop-c-preserved-then-passes : goal.loop-c-preserved-then-passes
loop-c-preserved-then-passes g c t is =
    rw c.push.ensures.items (subst (λ (v : ℕ). backward t c.args.xs.now ≡ (c.loop-c.found.items ++ v ∷ []) ++ backward t c.next.new.self.iter.rest.now) (omega arith) (gather_yes t _ _ _ _ _ c.in-Some.ensures.steps (c.loop-c.invariant t is) (sym (is _ _ c.passes.ensures) ∙ c.if-passes.true)))

pub loop-c-preserved : goal.loop-c-preserved
loop-c-preserved g c t is =
    gather_no t _ _ _ _ _ c.in-Some.ensures.steps (c.loop-c.invariant t is) (sym (is _ _ c.passes.ensures) ∙ c.if-passes.false)

pub returns-then-is_full : goal.returns-then-is_full
returns-then-is_full g c t is =
    let h = gather_full t _ _ _ _ _ c.in-Some.ensures.steps (c.loop-c.invariant t is) (sym (is _ _ c.passes.ensures) ∙ c.if-passes.true) in
    let e : length c.loop-c.found.items ≡ g.row.N = eqb-true _ _ (sym c.is_full.ensures.value ∙ c.if-is_full.true) in
    omega arith

pub returns : goal.returns
returns g c t is = gather_all t _ _ _ c.in-None.ensures.steps.0 (c.loop-c.invariant t is)
