use Rattle.std.proofs.Common.{◌+◌, ◌≤◌, length, set, sym, ap, subst₂, inl, inr, arith, rules, length-drop}
use Rattle.std.proofs.lemmas.List.{length_push}
use Rattle.finite.proofs.Walking.{ahead_of}
use Rattle.peels.proofs.Marks.{Spread, spread_none, spread_more}
use Rattle.putback.proofs.spread.Goals as goal

pub loop-x-init : goal.loop-x-init
loop-x-init c = (search rules, search rules, spread_none c.args.list.now c.args.drives.now c.args.colours.now)

pub loop-x-preserved : goal.loop-x-preserved
loop-x-preserved c =
    let i = length c.loop-x.yielded in
    let xs = c.args.list.now in
    let ds = c.args.drives.now in
    let a = ahead_of xs _ c.next.new.self.a.rest.now i c.in-Some.x.now c.loop-x.invariant.0 c.in-Some.ensures.steps.0 in
    let b = ahead_of ds _ c.next.new.self.b.rest.now i c.in-Some.drive.now c.loop-x.invariant.1 c.in-Some.ensures.steps.1 in
    let s = spread_more xs ds i c.args.colours.now c.loop-x.colours a.within (omega (arith, c.requires.listed i a.within)) c.loop-x.invariant.2 in
    let v = subst₂ (λ y d. Spread xs ds (i + 1) c.args.colours.now (set c.loop-x.colours y d)) (sym a.is) (sym b.is) s in
    let n = length_push c.loop-x.yielded (c.in-Some.x, c.in-Some.drive) in
    rw n (a.left, b.left, v)

pub returns : goal.returns
returns c =
    let i = length c.loop-x.yielded in
    let s = c.loop-x.invariant.2 in
    let u = length-drop i c.args.list.now in
    let w = length-drop i c.args.drives.now in
    let e : length c.args.list.now ≤ i = elim c.in-None.ensures.steps [ inl h ↦ omega (arith, u, w, h.1, ap length c.loop-x.invariant.0) | inr h ↦ omega (arith, u, w, h.1, ap length c.loop-x.invariant.1) ] in
    record { laid = λ once j l. s.laid once j (omega arith); keeps = s.keeps }
