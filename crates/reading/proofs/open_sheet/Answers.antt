use Rattle.std.proofs.Common.{true, Some, subst, inl, inr, arith}
use Rattle.std.proofs.lemmas.Result.{err_from_is_err_and}
use Rattle.fields.specs.Parts.{Cut}
use Rattle.lines.specs.Kept.{Kept}
use Rattle.reading.proofs.Walks.{cut_some, cut_none}
use Rattle.reading.proofs.Opens.{opens_not, opens_wrong, opens_other, opens_large, opens}
use Rattle.reading.proofs.open_sheet.Goals as goal
use Rattle.reading.proofs.open_sheet.Goals.{In-Some}

-- the first line
piece : (c : In-Some) → Cut 10 c.args.sheet.now c.cut-piece.result.front.now (Some c.in-Some.rest.now)
piece c = cut_some c.args.sheet.now c.cut-piece.result.front.now c.cut-piece.result.rest c.in-Some.rest c.cut-piece.ensures c.in-Some.is

pub returns-in_default : goal.returns-in_default
returns-in_default c = opens_not c.args.sheet.now c.cut-piece.result.front.now c.early.result (cut_none _ _ _ c.cut-piece.ensures c.in_default.is) c.early.ensures

pub returns-in_err-n : goal.returns-in_err-n
returns-in_err-n c =
    let p = err_from_is_err_and c.from_residual.result c.from_residual.ensures.1 in
    rw (p.1, p.2) (opens_wrong c.args.sheet.now c.cut-piece.result.front.now c.in-Some.rest.now _ (piece (goal.at.returns-in_err-n c).In-Some) c.in_err-n.ensures)

pub returns-in_default-2 : goal.returns-in_default-2
returns-in_default-2 c =
    opens_other c.args.sheet.now c.cut-piece.result.front.now c.in-Some.rest.now c.refused.result c.in_ok-n.field-0 (piece (goal.at.returns-in_default-2 c).In-Some) c.in_ok-n.ensures c.in_default-2.not-Size c.refused.ensures

pub returns-then-n-gt-NUMBERS : goal.returns-then-n-gt-NUMBERS
returns-then-n-gt-NUMBERS c =
    let k = subst (Kept true c.cut-piece.result.front.now) c.in-Size.is c.in_ok-n.ensures in
    opens_large c.args.sheet.now c.cut-piece.result.front.now c.in-Some.rest.now c.refused-then-n-gt-NUMBERS.result c.in-Size.n.value c.in-Size.m.value (piece (goal.at.returns-then-n-gt-NUMBERS c).In-Some) k.0
    (elim c.then-n-gt-NUMBERS.either [ inl a ↦ inl a | inr a ↦ inr a.1 ]) c.refused-then-n-gt-NUMBERS.ensures

pub returns : goal.returns
returns c =
    let k = subst (Kept true c.cut-piece.result.front.now) c.in-Size.is c.in_ok-n.ensures in
    opens c.args.sheet.now c.cut-piece.result.front.now (record { size = record { n = c.in-Size.n.value; clashes = c.in-Size.m.value }; rest = c.in-Some.rest }) (piece (goal.at.returns c).In-Some) k.0 (omega arith) (omega arith) (omega arith)
