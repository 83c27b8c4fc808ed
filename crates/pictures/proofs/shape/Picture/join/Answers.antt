use Rattle.std.proofs.Common.{◌≡◌, ℕ, ◌||◌, set, refl, arith}
use Rattle.grids.specs.Grid.{linked}
use Rattle.grids.proofs.Joins.{ends, linked_after, even_after, loopless_after, held_after}
use Rattle.pictures.proofs.shape.Picture.join.Goals as goal

after : (c : goal.After-with-2) (i j : ℕ) → linked (set (set c.args.self.now.rows c.args.a c.with.result) c.args.b c.with-2.result) i j ≡ (linked c.args.self.now.rows i j || ends c.args.a c.args.b i j)
after c = linked_after c.args.self.now.rows c.args.a c.args.b c.with.result c.with-2.result (omega arith) (omega arith) c.requires.apart c.with.ensures c.with-2.ensures

pub invariant_of-self : goal.invariant_of-self
invariant_of-self c =
    let rows = c.args.self.now.rows in
    let rows' = set (set rows c.args.a c.with.result) c.args.b c.with-2.result in
    let n = c.args.self.now.count in record {
      small = c.args.self.now.small;
      even = even_after rows rows' n c.args.a c.args.b c.requires.first c.requires.second c.requires.apart (after c) c.args.self.now.even;
      loopless = loopless_after rows rows' n c.args.a c.args.b c.requires.first c.requires.second c.requires.apart (after c) c.args.self.now.loopless;
      held = held_after rows rows' n c.args.a c.args.b c.requires.first c.requires.second c.requires.apart (after c) c.args.self.now.held;
    }

pub returns : goal.returns
returns c = record { size = refl; joins = linked_after c.args.self.now.rows c.args.a c.args.b c.with.result c.with-2.result (omega arith) (omega arith) c.requires.apart c.with.ensures c.with-2.ensures }
