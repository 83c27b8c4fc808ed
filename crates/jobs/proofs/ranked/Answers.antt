use Rattle.std.proofs.Common.{◌≡◌, ℕ, ◌<◌, ◌≤◌, true, length, MatchOption, Option, sym, ◌∙◌, subst, arith, rules, tests}
use Rattle.std.proofs.lemmas.Iterator.{YieldsList-from_range}
use Rattle.std.proofs.lemmas.Iterator.Consumers.{nth_from_yields_List}
use Rattle.std.proofs.lemmas.Iterator.Adapters.{option_map_id}
use Rattle.finite.specs.Finite.{count, members, nth}
use Rattle.finite.proofs.Chains.{members_from_filter}
use Rattle.finite.proofs.Members.{members_match, nth_get}
use Rattle.graph.specs.Graph.{clash, degree}
use Rattle.jobs.specs.Jobs.{sharing}
use Rattle.jobs.proofs.ranked.Goals as goal

found : (c : goal.After-nth) → c.nth.result ≡ nth (members (clash (sharing c.args.masks.now) c.args.a) (length c.args.masks.now)) c.args.i
found c =
    let p = clash (sharing c.args.masks.now) c.args.a in
    let n = length c.args.masks.now in
    sym (option_map_id c.nth.result)
    ∙ nth_from_yields_List c.nth.result c.nth.new.self c.args.i c.nth.ensures.ran (members_from_filter _ p n (YieldsList-from_range 0 n n (cc) (omega arith)) c.filter.ensures.closure (λ x r q k. search (rules, tests)))
    ∙ nth_get (members p n) c.args.i

pub returns-clause-listed : goal.returns-clause-listed
returns-clause-listed c = found c

pub returns-clause-ranked : goal.returns-clause-ranked
unfolding degree
returns-clause-ranked c =
    let p = clash (sharing c.args.masks.now) c.args.a in
    let n = length c.args.masks.now in
    subst (λ (r : Option ℕ). MatchOption r (count p n ≤ c.args.i) (λ b. (b < n) × (p b ≡ true) × (count p b ≡ c.args.i))) (sym (found c)) (members_match p n c.args.i)
