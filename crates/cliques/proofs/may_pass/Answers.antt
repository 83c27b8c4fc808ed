use Rattle.std.proofs.Common.{◌<◌, Bool, ◌&&◌, ltb, sym, ap, ◌∙◌, arith}
use Rattle.std.proofs.lemmas.Bool.{lt-ltb, le-ltb, ltb-false, and_left, both_ways}
use Rattle.finite.specs.Finite.{count}
use Rattle.finite.specs.Masks.{bit}
use Rattle.searching.proofs.Search.{few_inside, some_inside}
use Rattle.cliques.proofs.may_pass.Goals as goal

pub returns-then-size-room : goal.returns-then-size-room
returns-then-size-room g c =
    let m = c.args.m in
    let l : c.args.room < count (bit m) 64 = omega (arith, c.if-size-room.true, c.size.ensures.value) in
    record {
      value = ap (ltb c.args.room) c.bound.ensures ∙ sym (ap (λ (b : Bool). b && ltb c.args.room (g.B.Bound.answer c.args.bound.now c.args.p.now m)) (lt-ltb _ _ l));
      left = λ f K k. let s = g.met.B.Bound.sound c.args.bound.now c.args.p.now m K (omega arith) k in omega (arith, ltb-false _ _ f, c.bound.ensures);
      some = λ _. some_inside m c.args.room l;
    }

pub returns-else-size-room : goal.returns-else-size-room
returns-else-size-room g c =
    let m = c.args.m in
    let e = le-ltb c.args.room c.size.result c.if-size-room.false in
    record {
      value = e ∙ sym (and_left _ _ (sym (ap (ltb c.args.room) c.size.ensures.value) ∙ e));
      left = λ _ K k. omega (arith, few_inside c.args.p.now m K k, c.size.ensures.value, c.if-size-room.false);
      some = λ t. absurd (both_ways _ e t);
    }
