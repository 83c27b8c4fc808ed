use Rattle.std.proofs.Common.{◌≡◌, ℕ, Bool, ◌&&◌, ltb, length, sym, ap, ◌∙◌, inl, arith, rules, tests}
use Rattle.std.proofs.lemmas.Bool.{cases_Bool}
use Rattle.std.proofs.lemmas.Iterator.Consumers.{YieldsList-at, YieldsList-from_filter, count_from_yields_List}
use Rattle.finite.proofs.Counts.{count_same}
use Rattle.finite.proofs.Members.{length_members}
use Rattle.graph.specs.Graph.{clash, inside}
use Rattle.graph.proofs.Walks.{YieldsList-from_neighbours, filter_members, left_fits}
use Rattle.caps.proofs.Rows.{row_length}
use Rattle.capping.proofs.edges.count_later.Goals as goal

pub count-requires-clause-fits : goal.count-requires-clause-fits
count-requires-clause-fits g c =
    let i = c.filter.result.iter in
    inl (left_fits (g.S.Source.graph i.source.now) i.vertex i.passed (g.met.S.Source.lawful i.source.now))

pub returns : goal.returns
unfolding inside
returns g c =
    let G = g.S.Source.graph c.args.source.now in
    let p = clash G c.args.a in
    let q : ℕ → Bool = λ b. ltb c.args.a b in
    count_from_yields_List c.filter.result _ c.count.ensures.ran (YieldsList-from_filter _ q (YieldsList-at c.filter.ensures.source (YieldsList-from_neighbours _ _ _ G c.args.a c.of.ensures.source c.of.ensures.vertex c.of.ensures.start)) c.filter.ensures.closure (λ x r w k. search (rules, tests)))
    ∙ ap length (filter_members p q G.size)
    ∙ length_members (λ b. p b && q b) G.size
    ∙ count_same (λ b. p b && q b) (λ b. q b && p b) G.size (λ b l. turn (p b) (q b))
    ∙ sym (row_length G c.args.a)
  where
    turn : (x y : Bool) → (x && y) ≡ (y && x)
    turn x y = grind (arith, cases_Bool x, cases_Bool y)
