use Rattle.std.proofs.Common.{true, false, None, sym, refl, ap, ◌∙◌, subst, inl, inr, arith}
use Rattle.std.proofs.lemmas.Bool.{both_ways, cases_eq}
use Rattle.cohesion.proofs.Places.{RightAt, prev_none, prev_more, rising_at, rising_from}
use Rattle.graph.specs.Edges.{above}
use Rattle.cohesion.specs.Common.{edge_at}
use Rattle.communities.proofs.walks.is_listing.Goals as goal
use Rattle.communities.proofs.walks.is_listing.Goals.{then-e-via-then-e, then-e-via-else-e+then-e-n, then-e-via-else-e+else-e-n+then-not-is_above}

pub loop-e-init : goal.loop-e-init
loop-e-init c = (sym (prev_none None c.args.list.now), λ i l. absurd (omega arith))

pub returns-then-e : goal.returns-then-e
returns-then-e c =
    record {
      yes = λ z. absurd (both_ways false refl z);
      no = λ z g.
          let h = rising_at c.args.n None c.args.list.now c.loop-e.e-index g.rising c.loop-e-test.true in
          elim c.then-e.branch [
            | then-e-via-then-e w ↦ omega (arith, h.smaller, w.if-e.true)
            | then-e-via-else-e+then-e-n w ↦ omega (arith, h.below, w.if-e-n.true)
            | then-e-via-else-e+else-e-n+then-not-is_above w ↦ both_ways w.is_above.result w.if-not-is_above.true (w.is_above.ensures ∙ ap (λ o. above o (edge_at c.args.list.now c.loop-e.e-index)) c.loop-e.invariant.0 ∙ h.next)
          ];
    }

pub loop-e-preserved : goal.loop-e-preserved
loop-e-preserved c =
    let list = c.args.list.now in
    let j = c.loop-e.e-index in
    let here : RightAt c.args.n None list j = record {
      smaller = c.if-e.false;
      below = c.if-e-n.false;
      next = ap (λ o. above o (edge_at list j)) (sym c.loop-e.invariant.0) ∙ sym c.is_above.ensures ∙ c.if-not-is_above.false;
    } in (
      sym (prev_more None list j c.loop-e-test.true),
      λ i l. elim (cases_eq i j) [ inl e ↦ subst (RightAt c.args.n None list) (sym e) here | inr e ↦ c.loop-e.invariant.1 i (omega arith) ],
    )

pub returns : goal.returns
returns c =
    record {
      yes = λ e. record { small = omega arith; rising = rising_from c.args.n None c.args.list.now (λ j l. c.loop-e.invariant.1 j (omega arith)) };
      no = λ e. absurd (both_ways true e refl);
    }
