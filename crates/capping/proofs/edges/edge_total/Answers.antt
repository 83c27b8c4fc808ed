use Rattle.std.proofs.Common.{◌≡◌, ℕ, zero, suc, ◌+◌, length, sum_by, sym, ap, arith, rules, tests, add-one, ◌∙◌}
use Rattle.std.proofs.lemmas.Iterator.{YieldsList-from_range, YieldsList-from_map}
use Rattle.std.proofs.lemmas.Iterator.Consumers.{sum_by_from_yields_List, fits_by_from_yields_list}
use Rattle.std.proofs.lemmas.List.{map-id}
use Rattle.std.proofs.lemmas.List.FromFn.{sum_by-map-range_with_len_more}
use Rattle.std.specs.List.{range_with_len}
use Rattle.graph.specs.Graph.{Graph}
use Rattle.graph.specs.Edges.{edges_at, edges_below}
use Rattle.caps.proofs.Rows.{below_none, below_length, below_le}
use Rattle.capping.proofs.edges.edge_total.Goals as goal

summed : (g : Graph) (n : ℕ) → sum_by (λ a. length (edges_at g a)) (range_with_len 0 n) ≡ length (edges_below g n)
summed g zero = sym (ap length (below_none g))
summed g (suc n) =
    let h : ℕ → ℕ = λ a. length (edges_at g a) in
    let one = sum_by-map-range_with_len_more h (λ x. x) 0 n n (omega arith) in
    let a = ap (sum_by h) (map-id (range_with_len 0 n)) in
    let b = ap (sum_by h) (map-id (range_with_len 0 (n + 1))) in
    let e : sum_by h (range_with_len 0 (n + 1)) ≡ length (edges_below g (n + 1)) = omega (arith, summed g n, below_length g n) in
    rw add-one at e

pub sum-requires-clause-fits : goal.sum-requires-clause-fits
sum-requires-clause-fits g c =
    let G = g.S.Source.graph c.args.source.now in
    let s = (g.met.S.Source.lawful c.args.source.now).small in
    let h : ℕ → ℕ = λ a. length (edges_at G a) in
    fits_by_from_yields_list h (range_with_len 0 G.size) c.map.result _ (YieldsList-from_map _ h (YieldsList-from_range 0 G.size G.size (cc) (omega arith)) c.map.ensures.closure (λ x r q k. search (rules, tests))) (omega (arith, summed G G.size, below_le G G.size s))

pub returns : goal.returns
returns g c =
    let G = g.S.Source.graph c.args.source.now in
    let h : ℕ → ℕ = λ a. length (edges_at G a) in
    sum_by_from_yields_List h (range_with_len 0 G.size) c.map.result _ c.sum.ensures.ran (YieldsList-from_map _ h (YieldsList-from_range 0 G.size G.size (cc) (omega arith)) c.map.ensures.closure (λ x r q k. search (rules, tests)))
    ∙ summed G G.size
