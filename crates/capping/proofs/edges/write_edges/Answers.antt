use Rattle.std.proofs.Common.{◌≡◌, ◌+◌, List, ◌++◌, length, take, drop, sym, refl, ap, ◌∙◌, subst, arith}
use Rattle.graph.specs.declared.edge.Edge.{Edge}
use Rattle.graph.specs.Edges.{edges_at, edges_below}
use Rattle.supports.proofs.Queues.{drop_later}
use Rattle.caps.specs.Cap.{edge_count}
use Rattle.caps.proofs.Rows.{below_none, below_more, below_length, below_mono}
use Rattle.capping.proofs.edges.write_edges.Goals as goal

pub loop-a-init : goal.loop-a-init
loop-a-init g c =
    let G = g.S.Source.graph c.args.source.now in
    (sym (below_none G), sym (ap length (below_none G)), refl)

pub write_row-len-requires : goal.write_row-len-requires
write_row-len-requires g c =
    let G = g.S.Source.graph c.args.source.now in
    record {
      within = omega (arith, c.size-a-end.ensures);
      room = omega (arith, c.loop-a.invariant.1, below_length G c.loop-a.a, below_mono G (c.loop-a.a + 1) G.size (omega (arith, c.size-a-end.ensures)), c.requires);
    }

pub loop-a-preserved : goal.loop-a-preserved
loop-a-preserved g c =
    let G = g.S.Source.graph c.args.source.now in
    let a = c.loop-a.a in
    let e = c.write_row-len.ensures in (
      e.front ∙ ap (λ (p : List Edge). p ++ edges_at G a) c.loop-a.invariant.0 ∙ sym (below_more G a),
      omega (arith, e.value, c.loop-a.invariant.1, below_length G a),
      e.rest ∙ drop_later c.loop-a.len c.write_row-len.result c.loop-a.clashes c.args.clashes.now (omega (arith, e.value)) c.loop-a.invariant.2,
    )

pub returns : goal.returns
returns g c =
    let G = g.S.Source.graph c.args.source.now in
    let e : c.loop-a.a ≡ G.size = omega (arith, c.size-a-end.ensures) in
    let n : c.loop-a.len ≡ edge_count G = c.loop-a.invariant.1 ∙ ap (λ v. length (edges_below G v)) e in
    record {
      value = n;
      edges = record {
        fits = omega (arith, c.requires);
        edges = ap (λ v. take v c.loop-a.clashes) (sym n) ∙ c.loop-a.invariant.0 ∙ ap (edges_below G) e;
        rest = subst (λ v. drop v c.loop-a.clashes ≡ drop v c.args.clashes.now) n c.loop-a.invariant.2;
      };
    }
