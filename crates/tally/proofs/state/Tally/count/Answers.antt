use Rattle.std.proofs.Common.{sym, refl, ap, ◌∙◌, inl, inr, arith}
use Rattle.graph.specs.Edges.{above, edge}
use Rattle.tally.proofs.Counts.{sum_grown, row_still, twice_is, row_small, counted_more, counting_outside, counting_order, counting_many, counting_none}
use Rattle.tally.proofs.state.Tally.count.Goals as goal
use Rattle.tally.proofs.state.Tally.count.Goals.{then-a-self-via-then-a-self, then-a-self-via-else-a-self+then-b-self, then-a-b-via-then-a-b, then-a-b-via-else-a-b+then-not-is_above}

pub returns-then-a-self : goal.returns-then-a-self
returns-then-a-self c = λ n es s.
    let z = s.size in (
      counting_outside n es c.args.a c.args.b (elim c.then-a-self.branch [
        | then-a-self-via-then-a-self w ↦ inl (omega (arith, w.if-a-self.true))
        | then-a-self-via-else-a-self+then-b-self w ↦ inr (omega (arith, w.if-b-self.true))
      ]),
      refl,
    )

pub returns-then-a-b : goal.returns-then-a-b
returns-then-a-b c = λ n es s.
    let z = s.size in (
      counting_order n es c.args.a c.args.b (omega arith) (omega arith) (elim c.then-a-b.branch [
        | then-a-b-via-then-a-b w ↦ inl w.if-a-b.true
        | then-a-b-via-else-a-b+then-not-is_above w ↦ inr (ap (λ o. above o (edge c.args.a c.args.b)) (sym s.last) ∙ sym w.is_above.ensures ∙ w.if-not-is_above.true)
      ]),
      refl,
    )

pub returns-then-self-ge-CLASHES : goal.returns-then-self-ge-CLASHES
returns-then-self-ge-CLASHES c = λ n es s.
    let z = s.size in let y = s.count in (
      counting_many n es c.args.a c.args.b (omega arith) (omega arith) (omega arith) (ap (λ o. above o (edge c.args.a c.args.b)) (sym s.last) ∙ sym c.if-not-is_above.ensures) (omega arith),
      refl,
    )

pub overflow_add-self : goal.overflow_add-self
overflow_add-self c =
    let h = row_small c.args.self.now.lengths c.args.a c.args.self.now.clashes (omega (arith, c.args.self.now.small)) c.args.self.now.total c.args.self.now.few in omega arith

pub overflow_add-self-2 : goal.overflow_add-self-2
overflow_add-self-2 c =
    let h = row_still c.args.self.now.lengths c.args.a c.args.b c.args.self.now.clashes (omega (arith, c.args.self.now.small)) (omega arith) c.args.self.now.total c.args.self.now.few in omega arith

pub invariant_of-self : goal.invariant_of-self
invariant_of-self c = record { small = c.args.self.now.small; few = omega arith; total = sum_grown c.args.self.now.lengths c.args.a c.args.b c.args.self.now.clashes (omega (arith, c.args.self.now.small)) (omega (arith, c.args.self.now.small)) c.args.self.now.total }

pub returns : goal.returns
returns c = λ n es s.
    let z = s.size in let y = s.count in (
      counting_none n es c.args.a c.args.b (omega arith) (omega arith) (omega arith) (ap (λ o. above o (edge c.args.a c.args.b)) (sym s.last) ∙ sym c.if-not-is_above.ensures) (omega arith),
      counted_more n es c.args.self.now _ c.args.a c.args.b s (omega arith) refl refl refl (sym (twice_is c.args.self.now.lengths c.args.a c.args.b)) (omega arith) (omega (arith, c.args.self.now.small)),
    )
