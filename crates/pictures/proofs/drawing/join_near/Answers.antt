use Rattle.std.proofs.Common.{◌≡◌, ℕ, ◌<◌, get_or, sym, ap, ◌∙◌, subst, arith, get_or-take, length-take}
use Rattle.grids.specs.Draws.{Drawn}
use Rattle.grids.proofs.Draws.{drawn_yes, drawn_no, drawn_row}
use Rattle.pictures.specs.Pictures.{joined, places}
use Rattle.pictures.specs.declared.shape.Picture.{Picture}
use Rattle.pictures.proofs.drawing.join_near.Goals as goal
use Rattle.pictures.proofs.drawing.join_near.Goals.{then-near, else-near}

pub loop-j-preserved : goal.loop-j-preserved
loop-j-preserved g c =
    let J = joined c.loop-j.picture in
    let xs = c.args.chosen.now in
    let below : c.loop-j.j < c.args.i = omega (arith, length-take c.args.i xs) in
    let called : goal.F-post g c.args.near (get_or xs c.loop-j.j 0) c.near.result = subst (λ (v : ℕ). goal.F-post g c.args.near v c.near.result) (omega (arith, get_or-take c.args.i xs c.loop-j.j 0 below)) c.near.ensures in
    elim c.if-near.branch [
      | then-near w ↦ (
        ap places w.picture-is ∙ w.join.ensures.size ∙ c.loop-j.invariant.0,
        λ e both never is old. drawn_yes e both never J (joined c.if-near.picture) c.args.i c.loop-j.j (sym (is c.loop-j.j _ below called) ∙ w.if-near.true) (λ a b. ap (λ (q : Picture). joined q a b) w.picture-is ∙ w.join.ensures.joins a b) (c.loop-j.invariant.1 e both never is old),
      )
      | else-near w ↦ (
        ap places w.picture-is ∙ c.loop-j.invariant.0,
        λ e both never is old a b. ap (λ (q : Picture). joined q a b) w.picture-is ∙ drawn_no e both never J c.args.i c.loop-j.j (sym (is c.loop-j.j _ below called) ∙ w.if-near.false) (c.loop-j.invariant.1 e both never is old) a b,
      )
    ]

pub returns-clause-drawn : goal.returns-clause-drawn
returns-clause-drawn g c e both never is old =
    let J = joined c.loop-j.picture in
    let end : c.loop-j.j ≡ c.args.i = omega (arith, length-take c.args.i c.args.chosen.now) in
    drawn_row e both never J c.args.i (subst (λ (k : ℕ). Drawn e J c.args.i k) end (c.loop-j.invariant.1 e both never is old))
