use Rattle.std.proofs.Common.{◌<◌, length, sym, refl, ap, ◌∙◌, inl, inr, arith}
use Rattle.graph.specs.Edges.{above, edge}
use Rattle.tally.proofs.Lays.{fault_room, fault_outside, fault_order, fault_full, fault_none, laid_on, places_on}
use Rattle.tally.proofs.laying.Laying.lay.Goals as goal
use Rattle.tally.proofs.laying.Laying.lay.Goals.{then-a-self-via-then-a-self, then-a-self-via-else-a-self+then-b-self, then-a-b-via-then-a-b, then-a-b-via-else-a-b+then-not-is_above, then-self-a-eq0-via-then-self-a-eq0, then-self-a-eq0-via-else-self-a-eq0+then-self-b-eq0}

pub returns-then-neighbours-self : goal.returns-then-neighbours-self
returns-then-neighbours-self c =
    λ n es done s. (fault_room n es done (length c.args.neighbours.now) c.args.a c.args.b (omega (arith, s.count, c.if-neighbours-self.true)), refl, refl)

pub returns-then-a-self : goal.returns-then-a-self
returns-then-a-self c =
    λ n es done s. (
      fault_outside n es done (length c.args.neighbours.now) c.args.a c.args.b (omega (arith, s.count, c.if-neighbours-self.false)) (elim c.then-a-self.branch [
        | then-a-self-via-then-a-self w ↦ inl (omega (arith, s.size, w.if-a-self.true))
        | then-a-self-via-else-a-self+then-b-self w ↦ inr (omega (arith, s.size, w.if-b-self.true))
      ]),
      refl,
      refl,
    )

pub returns-then-a-b : goal.returns-then-a-b
returns-then-a-b c =
    λ n es done s. (
      fault_order n es done (length c.args.neighbours.now) c.args.a c.args.b (record { room_is = omega (arith, s.count, c.if-neighbours-self.false); first = omega (arith, s.size, c.if-a-self.false); second = omega (arith, s.size, c.if-b-self.false) }) (elim c.then-a-b.branch [
        | then-a-b-via-then-a-b w ↦ inl w.if-a-b.true
        | then-a-b-via-else-a-b+then-not-is_above w ↦ inr (ap (λ o. above o (edge c.args.a c.args.b)) (sym s.last) ∙ sym w.is_above.ensures ∙ w.if-not-is_above.true)
      ]),
      refl,
      refl,
    )

pub returns-then-self-a-eq0 : goal.returns-then-self-a-eq0
returns-then-self-a-eq0 c =
    λ n es done s. (
      fault_full n es done (length c.args.neighbours.now) c.args.a c.args.b (record { room_is = omega (arith, s.count, c.if-neighbours-self.false); first = omega (arith, s.size, c.if-a-self.false); second = omega (arith, s.size, c.if-b-self.false) }) c.if-a-b.false (ap (λ o. above o (edge c.args.a c.args.b)) (sym s.last) ∙ sym c.if-not-is_above.ensures) (elim c.then-self-a-eq0.branch [
        | then-self-a-eq0-via-then-self-a-eq0 w ↦ inl (omega (arith, w.if-self-a-eq0.true, s.left c.args.a (omega (arith, s.size, c.if-a-self.false))))
        | then-self-a-eq0-via-else-self-a-eq0+then-self-b-eq0 w ↦ inr (omega (arith, w.if-self-b-eq0.true, s.left c.args.b (omega (arith, s.size, c.if-b-self.false))))
      ]),
      refl,
      refl,
    )

pub returns : goal.returns
returns c =
    λ n es done s.
    let la : c.args.a < n = omega (arith, s.size, c.if-a-self.false) in
    let lb : c.args.b < n = omega (arith, s.size, c.if-b-self.false) in (
      fault_none n es done (length c.args.neighbours.now) c.args.a c.args.b (record { room_is = omega (arith, s.count, c.if-neighbours-self.false); first = la; second = lb }) c.if-a-b.false (ap (λ o. above o (edge c.args.a c.args.b)) (sym s.last) ∙ sym c.if-not-is_above.ensures) (omega (arith, s.left c.args.a la)) (omega (arith, s.left c.args.b lb)),
      laid_on n es done c.args.self.now _ c.args.a c.args.b s (omega arith) (omega arith) c.if-a-b.false (omega (arith, c.args.self.now.small)) (omega arith) (omega arith) refl refl refl refl refl,
      places_on n es done c.args.self.now c.args.neighbours.now _ c.args.a c.args.b s la lb refl,
    )
