use Rattle.std.proofs.Common.{sym, refl, ap, ◌∙◌, inl, inr, arith}
use Rattle.grammar.proofs.Steps.{judge_many, judge_first, judge_second, judge_taken, judge_order}
use Rattle.graph.specs.Refusals.{number}
use Rattle.reading.proofs.Walks.{refused_at, placed}
use Rattle.reading.proofs.Walk.judge_line.Goals as goal
use Rattle.reading.proofs.Walk.judge_line.Goals.{else-a-b-via-then-a-b+else-is_above, else-a-b-via-else-a-b}

pub returns-then-self : goal.returns-then-self
returns-then-self c = let f = c.refused.ensures in refused_at _ _ _ _ _ _ (judge_many _ _ _ _ _ _ (omega arith)) f.code f.line f.field f.shown

pub returns-then-a-self : goal.returns-then-a-self
returns-then-a-self c = let f = placed _ _ _ _ c.at.ensures.place in refused_at _ _ _ _ _ _ (judge_first _ _ _ _ _ _ (omega arith) (omega arith)) (ap number c.at.ensures.refusal) f.0 f.1 (f.2 ∙ c.requires.shown.0)

pub returns-then-b-self : goal.returns-then-b-self
returns-then-b-self c = let f = placed _ _ _ _ c.at-then-b-self.ensures.place in refused_at _ _ _ _ _ _ (judge_second _ _ _ _ _ _ (omega arith) (omega arith) (omega arith)) (ap number c.at-then-b-self.ensures.refusal) f.0 f.1 (f.2 ∙ c.requires.shown.1)

pub returns-then-is_above : goal.returns-then-is_above
returns-then-is_above c = (judge_taken _ _ _ _ _ _ (omega arith) (omega arith) (omega arith) (omega arith) (sym c.if-is_above.ensures), refl)

pub returns : goal.returns
returns c =
    let f = c.refused-2.ensures in
    refused_at _ _ _ _ _ _
    (judge_order _ _ _ _ _ _ (omega arith) (omega arith) (omega arith)
    (elim c.else-a-b.branch [
      | else-a-b-via-then-a-b+else-is_above w ↦ inr (sym w.is_above.ensures ∙ w.if-is_above.false)
      | else-a-b-via-else-a-b w ↦ inl w.if-a-b.false
    ])) f.code f.line f.field f.shown
