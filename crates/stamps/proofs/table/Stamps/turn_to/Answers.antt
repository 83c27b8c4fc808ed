use Rattle.std.proofs.Common.{◌+◌, ◌<◌, ap, arith}
use Rattle.stamps.specs.declared.table.Stamps.{Stamps}
use Rattle.stamps.proofs.Ranks.{turned}
use Rattle.stamps.proofs.table.Stamps.turn_to.Given as given
use Rattle.stamps.proofs.table.Stamps.turn_to.Goals as goal
use Rattle.stamps.proofs.table.Stamps.turn_to.Goals.{then-self, else-self}

small : (g : given.Over) (c : goal.Joined-self g) → c.if-self.self.turn < 255
small g c =
    elim c.if-self.branch [
      | then-self w ↦ omega (arith, ap (λ (s : Stamps). s.turn) w.self-is, w.new.ensures)
      | else-self w ↦ omega (arith, ap (λ (s : Stamps). s.turn) w.self-is, w.if-self.false)
    ]

pub overflow_add-turn : goal.overflow_add-turn
overflow_add-turn g c = omega (arith, small g c)

pub returns : goal.returns
returns g c =
    let s = c.if-self.self in
    turned (g.S.Source.graph c.args.source.now) c.args.v (s.turn + 1) s.table c.write.new.table (g.met.S.Source.lawful c.args.source.now).small c.write.ensures (λ k. omega (arith, s.past k))
