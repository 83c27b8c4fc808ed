use Rattle.std.proofs.Common.{◌≡◌, ℕ, ◌+◌, ◌<◌, List, [], ◌∷◌, ◌++◌, length, take, drop, sym, refl, ap, ◌∙◌, subst, append_assoc, arith, rules}
use Rattle.std.proofs.lemmas.List.{length_push, append-nil, take_more_set, drop-set-lt}
use Rattle.graph.specs.declared.edge.Edge.{Edge}
use Rattle.graph.specs.Edges.{edge}
use Rattle.graph.proofs.Walks.{next_of, last_of}
use Rattle.supports.proofs.Queues.{drop_later}
use Rattle.caps.proofs.Rows.{met_edges, met_none, met_yes, met_no, met_all, met_room}
use Rattle.capping.proofs.edges.write_row.Goals as goal
use Rattle.capping.proofs.edges.write_row.Goals.{Then-a-b}

pub loop-b-init : goal.loop-b-init
loop-b-init g c =
    let G = g.S.Source.graph c.args.source.now in
    let o = c.of-b-items.ensures in
    let n = met_none G c.args.a in
    let old = c.args.clashes.now in
    let start = c.args.start in
    let P : ℕ → Type 0 = λ i. (take start old ≡ take start old ++ met_edges G c.args.a i) × (start ≡ start + length (met_edges G c.args.a i)) × (drop start old ≡ drop start old) in
    let z : P 0 = (sym (ap (λ (v : List Edge). take start old ++ v) n ∙ append-nil (take start old)), omega (arith, ap length n), refl) in
    let p = subst P (sym o.start) z in
    subst (λ i. ((g.S.Source.graph i.source.now ≡ G) × (i.vertex ≡ c.args.a)) × (take start old ≡ take start old ++ met_edges G c.args.a i.passed) × (start ≡ start + length (met_edges G c.args.a i.passed)) × (drop start old ≡ drop start old)) (sym c.into_iter-b-iterator.ensures.into_iter_gives) ((o.source, o.vertex), p.0, p.1, p.2)

room : (g : _) (c : Then-a-b g) → c.loop-b.len < length c.loop-b.clashes
room g c =
    let n = next_of c.loop-b.invariant.0 c.in-Some.ensures.steps in
    omega (arith, met_room (g.S.Source.graph c.args.source.now) c.args.a c.loop-b.b-iterator.passed c.in-Some.b n.is c.if-a-b.true, c.loop-b.invariant.2, c.requires.room)

pub bounds-clashes-len : goal.bounds-clashes-len
bounds-clashes-len g c = room g (goal.at.bounds-clashes-len g c).Then-a-b

pub loop-b-preserved-then-a-b : goal.loop-b-preserved-then-a-b
loop-b-preserved-then-a-b g c =
    let G = g.S.Source.graph c.args.source.now in
    let a = c.args.a in
    let i = c.loop-b.b-iterator.passed in
    let es = c.loop-b.clashes in
    let len = c.loop-b.len in
    let old = c.args.clashes.now in
    let front = take c.args.start old in
    let v = c.loop-b.invariant in
    let n = next_of v.0 c.in-Some.ensures.steps in
    let b = c.in-Some.b in
    let m = met_yes G a i b n.is c.if-a-b.true in
    let l = room g (goal.at.loop-b-preserved-then-a-b g c).Then-a-b in
    rw n.passed (
      n.here,
      take_more_set es len (edge a b) l ∙ ap (λ (p : List Edge). p ++ edge a b ∷ []) v.1 ∙ append_assoc front (met_edges G a i) (edge a b ∷ []) ∙ ap (λ (p : List Edge). front ++ p) (sym m),
      omega (arith, v.2, ap length m, length_push (met_edges G a i) (edge a b)),
      drop-set-lt (len + 1) es len (edge a b) (omega arith) ∙ drop_later len (len + 1) es old (omega arith) v.3,
    )

pub loop-b-preserved : goal.loop-b-preserved
loop-b-preserved g c =
    let G = g.S.Source.graph c.args.source.now in
    let v = c.loop-b.invariant in
    let n = next_of v.0 c.in-Some.ensures.steps in
    let front = take c.args.start c.args.clashes.now in
    let m = met_no G c.args.a c.loop-b.b-iterator.passed c.in-Some.b n.is c.if-a-b.false in
    rw n.passed (n.here, v.1 ∙ ap (λ (p : List Edge). front ++ p) (sym m), omega (arith, v.2, ap length m), v.3)

pub returns : goal.returns
returns g c =
    let G = g.S.Source.graph c.args.source.now in
    let e = met_all G c.args.a c.loop-b.b-iterator.passed (sym (last_of c.loop-b.invariant.0 c.in-None.ensures.steps)) in
    record {
      front = c.loop-b.invariant.1 ∙ ap (λ (p : List Edge). take c.args.start c.args.clashes.now ++ p) e;
      value = omega (arith, c.loop-b.invariant.2, ap length e);
      rest = c.loop-b.invariant.3;
    }

pub offset_bounds-clashes-len : goal.offset_bounds-clashes-len
offset_bounds-clashes-len g c =
    let l = room g (goal.at.offset_bounds-clashes-len g c).Then-a-b in search rules

pub overflow_add-len : goal.overflow_add-len
overflow_add-len g c =
    let l = room g (goal.at.overflow_add-len g c).Then-a-b in search rules
