use Rattle.std.proofs.Common.{◌≡◌, ℕ, Bool, true, ◌&&◌, eqb, ltb, length, get_or, ap, ◌∙◌, inl, arith, rules, tests}
use Rattle.std.proofs.lemmas.Bool.{cases_Bool, lt-ltb}
use Rattle.std.proofs.lemmas.Iterator.Consumers.{YieldsList-at, YieldsList-from_filter, count_from_yields_List}
use Rattle.finite.proofs.Counts.{count_same}
use Rattle.finite.proofs.Members.{length_members}
use Rattle.supports.specs.Peel.{alive}
use Rattle.graph.specs.Graph.{Graph, clash, inside}
use Rattle.graph.proofs.Graphs.{inside_le}
use Rattle.graph.proofs.Walks.{YieldsList-from_neighbours, filter_members, left_fits, serves_from_neighbours}
use Rattle.items.proofs.vertices.AnyPeeledVertex.support_of.Goals as goal

pub count-requires-clause-can : goal.count-requires-clause-can
count-requires-clause-can g c =
    let i = c.filter.result.iter in
    let G = g.S.Source.graph c.args.self.now in
    let e : (g.S.Source.graph i.source.now).size ≡ G.size = ap (λ w. (g.S.Source.graph w.source.now).size) c.filter.ensures.source ∙ ap (λ (w : Graph). w.size) c.of.ensures.source in
    let q : length c.filter.result.p.0.now ≡ length c.args.living.now = ap (λ w. length w.0.now) c.filter.ensures.closure in
    (tt, tt, serves_from_neighbours _ _ _ (λ x q r. search (rules, tests)) (λ x l y z _ _ _ _ _ _ _ _. omega (arith, l, z, e, q, c.requires.lives)))

pub count-requires-clause-fits : goal.count-requires-clause-fits
count-requires-clause-fits g c =
    let i = c.filter.result.iter in
    inl (left_fits (g.S.Source.graph i.source.now) i.vertex i.passed (g.met.S.Source.lawful i.source.now))

found : (g : _) (c : goal.After-count g) → c.count.result ≡ inside (g.S.Source.graph c.args.self.now) (alive (g.S.Source.graph c.args.self.now).size c.args.living.now) c.args.i
unfolding inside alive
found g c =
    let G = g.S.Source.graph c.args.self.now in
    let p = clash G c.args.i in
    let q : ℕ → Bool = λ b. eqb (get_or c.args.living.now b 0) 1 in
    count_from_yields_List c.filter.result _ c.count.ensures.ran (YieldsList-from_filter _ q (YieldsList-at c.filter.ensures.source (YieldsList-from_neighbours _ _ _ G c.args.i c.of.ensures.source c.of.ensures.vertex c.of.ensures.start)) c.filter.ensures.closure (λ x r w k. search (rules, tests)))
    ∙ ap length (filter_members p q G.size)
    ∙ length_members (λ b. p b && q b) G.size
    ∙ count_same (λ b. p b && q b) (λ b. (ltb b G.size && q b) && p b) G.size (λ b l. turn (p b) (q b) (ltb b G.size) (lt-ltb b G.size l))
  where
    turn : (x y t : Bool) → t ≡ true → (x && y) ≡ ((t && y) && x)
    turn x y t e = rw e (grind (arith, cases_Bool x, cases_Bool y))

pub returns-clause-value : goal.returns-clause-value
returns-clause-value g c = omega (arith, found g c)

pub returns-clause-bound : goal.returns-clause-bound
returns-clause-bound g c =
    let G = g.S.Source.graph c.args.self.now in
    let l = (g.met.S.Source.lawful c.args.self.now).small in
    omega (arith, found g c, inside_le G (alive G.size c.args.living.now) c.args.i)
