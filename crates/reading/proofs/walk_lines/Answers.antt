use Rattle.std.proofs.Common.{◌≡◌, List, [], ◌∷◌, ◌++◌, length, Some, sym, ap, ◌∙◌, arith}
use Rattle.std.proofs.lemmas.Result.{err_from_is_err_and}
use Rattle.fields.specs.Parts.{Cut}
use Rattle.graph.specs.declared.edge.Edge.{Edge}
use Rattle.grammar.proofs.Back.{judge_done}
use Rattle.lines.specs.declared.Line.TheVariants.{Size, Clash, Remark, End}
use Rattle.lines.specs.Kept.{told}
use Rattle.reading.specs.Read.{Filled}
use Rattle.reading.proofs.Walks.{going_stop, going_wrong, going_size, going_refused, going_end, going_all, going_more, going_remark, filled_then, filled_else, walks_on, shorter, cut_some, cut_none, kept_later}
use Rattle.reading.proofs.walk_lines.Goals as goal
use Rattle.reading.proofs.walk_lines.Goals.{In-Some, in-Clash+in_ok-e-in-Clash, then-walk-edges, else-walk-edges, in-Remark}

-- the line that was cut off
piece : (c : In-Some) → Cut 10 c.loop-more.rest.now c.cut-piece.result.front.now (Some c.in-Some.more.now)
piece c = cut_some c.loop-more.rest.now c.cut-piece.result.front.now c.cut-piece.result.rest c.in-Some.more c.cut-piece.ensures c.in-Some.is

pub returns-in_default : goal.returns-in_default
returns-in_default c =
    going_stop _ _ _ c.loop-more.rest.now c.loop-more.at c.loop-more.walk.done c.loop-more.walk.previous _ c.loop-more.edges c.cut-piece.result.front.now c.loop-more.invariant.going (cut_none _ _ _ c.cut-piece.ensures c.in_default.is)
    ∙ sym c.early.ensures

pub returns-in_err-read_line : goal.returns-in_err-read_line
returns-in_err-read_line c =
    let p = err_from_is_err_and c.from_residual.result c.from_residual.ensures.1 in
    let g = going_wrong _ _ _ c.loop-more.rest.now c.loop-more.at c.loop-more.walk.done c.loop-more.walk.previous _ c.loop-more.edges c.cut-piece.result.front.now c.in-Some.more.now _ c.loop-more.invariant.going (piece (goal.at.returns-in_err-read_line c).In-Some) c.in_err-read_line.ensures in
    rw (p.1, p.2) g

pub returns-in-Size : goal.returns-in-Size
returns-in-Size c =
    let k = kept_later c.loop-more.at c.cut-piece.result.front.now c.in_ok-read_line.field-0 (Size c.in-Size.n c.in-Size.m) c.loop-more.invariant.going.later c.in_ok-read_line.ensures c.in-Size.is in
    going_size _ _ _ c.loop-more.rest.now c.loop-more.at c.loop-more.walk.done c.loop-more.walk.previous _ c.loop-more.edges c.cut-piece.result.front.now c.in-Some.more.now _ _ _ c.loop-more.invariant.going (piece (goal.at.returns-in-Size c).In-Some) k.0 c.refused.ensures

pub returns-in_err-e-in-Clash : goal.returns-in_err-e-in-Clash
returns-in_err-e-in-Clash c =
    let p = err_from_is_err_and c.from_residual-in_err-e-in-Clash.result c.from_residual-in_err-e-in-Clash.ensures.1 in
    let k = kept_later c.loop-more.at c.cut-piece.result.front.now c.in_ok-read_line.field-0 (Clash c.in-Clash.a c.in-Clash.b) c.loop-more.invariant.going.later c.in_ok-read_line.ensures c.in-Clash.is in
    let g = going_refused _ _ _ c.loop-more.rest.now c.loop-more.at c.loop-more.walk.done c.loop-more.walk.previous _ c.loop-more.edges c.cut-piece.result.front.now c.in-Some.more.now _ _ _ c.loop-more.invariant.going (piece (goal.at.returns-in_err-e-in-Clash c).In-Some) k.0 (rw c.loop-more.invariant.same at c.in_err-e-in-Clash.ensures) in
    rw (p.1, p.2) g

pub returns-in_err-finish-in-End : goal.returns-in_err-finish-in-End
returns-in_err-finish-in-End c =
    let p = err_from_is_err_and c.from_residual-in_err-finish-in-End.result c.from_residual-in_err-finish-in-End.ensures.1 in
    let k = kept_later c.loop-more.at c.cut-piece.result.front.now c.in_ok-read_line.field-0 End c.loop-more.invariant.going.later c.in_ok-read_line.ensures c.in-End.is in
    let g = going_end _ _ _ c.loop-more.rest.now c.loop-more.at c.loop-more.walk.done c.loop-more.walk.previous _ c.loop-more.edges c.cut-piece.result.front.now c.in-Some.more.now (λ _ _. told c.in_err-finish-in-End.field-0.0) c.loop-more.invariant.going (piece (goal.at.returns-in_err-finish-in-End c).In-Some) k (rw c.loop-more.invariant.same at c.in_err-finish-in-End.ensures) in
    rw (p.1, p.2) g

pub returns-in-End : goal.returns-in-End
returns-in-End c =
    let k = kept_later c.loop-more.at c.cut-piece.result.front.now c.in_ok-read_line.field-0 End c.loop-more.invariant.going.later c.in_ok-read_line.ensures c.in-End.is in
    going_all _ _ _ c.loop-more.rest.now c.loop-more.at c.loop-more.walk.done c.loop-more.walk.previous _ c.loop-more.edges c.cut-piece.result.front.now c.in-Some.more.now c.loop-more.invariant.going (piece (goal.at.returns-in-End c).In-Some) k (rw c.loop-more.invariant.same at c.in_ok-finish-in-End.ensures)

pub loop-more-smaller : goal.loop-more-smaller
loop-more-smaller c = omega (arith, shorter _ _ _ (piece (goal.at.loop-more-smaller c).In-Some))

pub judge_line-requires-clause-small : goal.judge_line-requires-clause-small
judge_line-requires-clause-small c = let e = ap (λ x. x.n) c.loop-more.invariant.same in omega arith

pub loop-more-preserved : goal.loop-more-preserved
loop-more-preserved c =
    let z = piece (goal.at.loop-more-preserved c).In-Some in
    let same = c.loop-more.invariant.same in
    let g = c.loop-more.invariant.going in
    let before = c.args.edges.now in
    elim c.match-branch-2.branch [
      | in-Clash+in_ok-e-in-Clash w ↦
          let k = kept_later c.loop-more.at c.cut-piece.result.front.now c.in_ok-read_line.field-0 (Clash w.in-Clash.a w.in-Clash.b) g.later c.in_ok-read_line.ensures w.in-Clash.is in
          let j = rw same at w.in_ok-e-in-Clash.ensures in
          let e = w.in_ok-e-in-Clash.e in
          let new = w.if-walk-edges.edges in
          let f : (length new ≡ length c.loop-more.edges) × ((es : List Edge) → length es ≡ c.loop-more.walk.done → Filled before c.loop-more.edges es → Filled before new (es ++ e ∷ [])) =
          elim w.if-walk-edges.branch [
            | then-walk-edges v ↦ filled_then before c.loop-more.edges new e c.loop-more.walk.done g.long v.if-walk-edges.true v.edges-is
            | else-walk-edges v ↦ filled_else before c.loop-more.edges new e c.loop-more.walk.done g.long v.if-walk-edges.false v.edges-is
          ] in
          walks_on _ _ _ _ _ _ _ _ _ w.walk-is w.edges-is same
          (going_more _ _ _ c.loop-more.rest.now c.loop-more.at c.loop-more.walk.done c.loop-more.walk.previous before c.loop-more.edges c.cut-piece.result.front.now c.in-Some.more.now w.in-Clash.a.value w.in-Clash.b.value e new g z k.0 j.0 j.1 (judge_done _ _ _ _ _ _ j.0) f.0 f.1)
      | in-Remark w ↦
          let k = kept_later c.loop-more.at c.cut-piece.result.front.now c.in_ok-read_line.field-0 (Remark w.in-Remark.field-0) g.later c.in_ok-read_line.ensures w.in-Remark.is in
          walks_on _ _ _ _ _ _ _ _ _ w.walk-is w.edges-is same
          (going_remark _ _ _ c.loop-more.rest.now c.loop-more.at c.loop-more.walk.done c.loop-more.walk.previous before c.loop-more.edges c.cut-piece.result.front.now c.in-Some.more.now g z k.0)
    ]
