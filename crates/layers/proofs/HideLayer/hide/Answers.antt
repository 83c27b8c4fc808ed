use Rattle.std.proofs.Common.{◌<◌, true, length, set, refl, arith, rules}
use Rattle.graph.specs.Hiding.{marked}
use Rattle.graph.proofs.Hiding.{hides_one, marked_set}
use Rattle.layers.proofs.HideLayer.hide.Goals as goal

pub returns : goal.returns
returns g c =
    let s = c.args.self.now in
    let law = g.met.S.Source.lawful s.below in
    let l : c.args.c < length s.hidden = omega (arith, law.small, s.whole) in
    record {
      answer = search rules;
      below = refl;
      marks = marked_set s.hidden c.args.c l;
      graph = hides_one (g.S.Source.graph s.below) (marked s.hidden) (marked (set s.hidden c.args.c true)) c.args.c (marked_set s.hidden c.args.c l);
    }
