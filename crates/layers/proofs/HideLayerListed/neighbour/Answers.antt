use Rattle.std.proofs.Common.{◌≡◌, ℕ, ◌<◌, ◌≤◌, true, not, Option, MatchOption, sym, ap, ◌∙◌, subst, arith, rules, tests}
use Rattle.std.proofs.lemmas.Iterator.Consumers.{YieldsList-at, YieldsList-from_filter, nth_from_yields_List}
use Rattle.std.proofs.lemmas.Iterator.Adapters.{option_map_id}
use Rattle.finite.specs.Finite.{count, members, nth}
use Rattle.finite.proofs.Members.{members_match, nth_get}
use Rattle.graph.specs.Graph.{clash, degree}
use Rattle.graph.specs.Hiding.{marked, without}
use Rattle.graph.proofs.Graphs.{degree_past}
use Rattle.graph.proofs.Hiding.{unheld_degree}
use Rattle.graph.proofs.Walks.{YieldsList-from_neighbours, members_left}
use Rattle.layers.proofs.HideLayerListed.neighbour.Goals as goal

pub returns-then-not-holds : goal.returns-then-not-holds
returns-then-not-holds g c =
    let s = c.args.self.now in
    let H = without (g.S.Source.graph s.below) (marked s.hidden) in
    let d = unheld_degree H c.args.c c.if-not-holds.ensures in
    record { listed = degree_past H c.args.c c.args.i (omega arith); ranked = omega arith }

found : (g : _) (c : goal.After-nth g) → c.nth.result ≡ nth (members (clash (without (g.S.Source.graph c.args.self.now.below) (marked c.args.self.now.hidden)) c.args.c) (g.S.Source.graph c.args.self.now.below).size) c.args.i
found g c =
    let s = c.args.self.now in
    let G = g.S.Source.graph s.below in
    let h = marked s.hidden in
    sym (option_map_id c.nth.result)
    ∙ nth_from_yields_List c.nth.result c.nth.new.self c.args.i c.nth.ensures.ran (YieldsList-from_filter _ (λ b. not (h b)) (YieldsList-at c.filter.ensures.source (YieldsList-from_neighbours _ _ _ G c.args.c c.of.ensures.source c.of.ensures.vertex c.of.ensures.start)) c.filter.ensures.closure (λ x r q k. search (rules, tests)))
    ∙ nth_get _ c.args.i
    ∙ ap (λ xs. nth xs c.args.i) (members_left G h c.args.c c.if-not-holds.ensures)

pub returns-clause-listed : goal.returns-clause-listed
returns-clause-listed g c = found g c

pub returns-clause-ranked : goal.returns-clause-ranked
unfolding degree
returns-clause-ranked g c =
    let H = without (g.S.Source.graph c.args.self.now.below) (marked c.args.self.now.hidden) in
    let p = clash H c.args.c in
    subst (λ (r : Option ℕ). MatchOption r (count p H.size ≤ c.args.i) (λ b. (b < H.size) × (p b ≡ true) × (count p b ≡ c.args.i))) (sym (found g c)) (members_match p H.size c.args.i)
