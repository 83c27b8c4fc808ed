use Rattle.std.proofs.Common.{◌≡◌, ℕ, ◌-◌, ◌≤◌, cond, ltb, List, ◌++◌, length, get_or, take, drop, length-append, length-take, length-drop, sym, ap, ◌∙◌, subst, inl, inr, arith}
use Rattle.graph.specs.declared.refusal.Refusal.{Refusal}
use Rattle.graph.specs.Graph.{vertices}
use Rattle.finite.proofs.Tables.{filled_at}
use Rattle.peeling.specs.Peeling.{PeelRefused}
use Rattle.caps.specs.Cap.{edge_count}
use Rattle.caps.proofs.Caps.{degeneracy_le, none_listed, cap_empty, cap_plain, capped_none, capped_edged, listing, written, deepest_of, number_le}
use Rattle.capping.proofs.cap.Goals as goal

-- with room enough, and a list as it has to be, peeling is not refused
never_refused : (n room : ℕ) (proper : Type 0) (living marks : ℕ) (x : Refusal) → proper → n ≤ 16384 → n ≤ living → room ≤ marks → PeelRefused n room proper living marks 16384 x → ⊥
never_refused n room proper living marks x p few l k h =
    elim h [
      | inl a ↦ elim a [
        | inl b ↦ omega (arith, b.1)
        | inr b ↦ elim b.2 [ inl d ↦ omega arith | inr d ↦ elim d [ inl e ↦ omega arith | inr e ↦ omega arith ] ]
      ]
      | inr a ↦ a.2 p
    ]

filled_length : (front ys : List ℕ) (n : ℕ) → length front ≡ length (take n ys) → length (front ++ drop n ys) ≡ length ys
filled_length front ys n e = omega (arith, length-append front (drop n ys), length-take n ys, length-drop n ys, e)

pub returns-then-found-eq0 : goal.returns-then-found-eq0
returns-then-found-eq0 g c =
    let G = g.S.Source.graph c.args.source.now in
    let lw = g.met.S.Source.lawful c.args.source.now in
    let v : vertices G ≡ 0 = omega (arith, c.degeneracy-found.ensures.len, c.if-found-eq0.true) in
    record {
      cases = capped_none G lw c.args.clashes.now c.write_edges-m.new.clashes c.write_edges-m.ensures.edges c.args.living.now c.args.marks.now (c.fill.new.self ++ drop c.size-n.result c.args.marks.now) c.size-n.result 0 c.size-n.ensures (none_listed G lw v) (cap_empty G lw v) (λ k. filled_at c.fill.new.self c.args.marks.now c.size-n.result 0 k (omega (arith, c.in_ok-check.ensures.marks_fit, c.size-n.ensures)) (c.fill.ensures.after (λ y q. q)));
      refused = c.in_ok-check.ensures;
    }

pub returns-then-m-eq0 : goal.returns-then-m-eq0
returns-then-m-eq0 g c =
    let G = g.S.Source.graph c.args.source.now in
    let lw = g.met.S.Source.lawful c.args.source.now in
    let z : edge_count G ≡ 0 = omega (arith, c.write_edges-m.ensures.value, c.if-m-eq0.true) in
    record {
      cases = capped_none G lw c.args.clashes.now c.write_edges-m.new.clashes c.write_edges-m.ensures.edges c.args.living.now c.args.marks.now (c.fill.new.self ++ drop c.size-n.result c.args.marks.now) c.size-n.result 1 c.size-n.ensures z (cap_plain G (omega (arith, c.degeneracy-found.ensures.len, c.if-found-eq0.false)) z) (λ k. filled_at c.fill.new.self c.args.marks.now c.size-n.result 0 k (omega (arith, c.in_ok-check.ensures.marks_fit, c.size-n.ensures)) (c.fill.ensures.after (λ y q. q)));
      refused = c.in_ok-check.ensures;
    }

pub returns-in_err-number : goal.returns-in_err-number
returns-in_err-number g c =
    let G = g.S.Source.graph c.args.source.now in
    let lw = g.met.S.Source.lawful c.args.source.now in
    let m = c.write_edges-m.result in
    let f = c.in_ok-check.ensures in
    let e = written G c.args.clashes.now c.write_edges-m.new.clashes m c.write_edges-m.ensures.value c.write_edges-m.ensures.edges in
    let len : length (take (m - 0) c.write_edges-m.new.clashes) ≡ edge_count G = ap length e in
    absurd (never_refused (length (take (m - 0) c.write_edges-m.new.clashes)) c.size-n.result _ (length (c.fill-2.new.self ++ drop c.write_edges-m.result c.args.living.now)) (length (c.fill.new.self ++ drop c.size-n.result c.args.marks.now)) _ (listing G lw c.args.clashes.now c.write_edges-m.new.clashes c.write_edges-m.ensures.edges (take (m - 0) c.write_edges-m.new.clashes) c.size-n.result e c.size-n.ensures) (omega (arith, f.few)) (omega (arith, f.living_fit, filled_length c.fill-2.new.self c.args.living.now m c.fill-2.ensures.len)) (omega (arith, f.marks_fit, c.size-n.ensures, filled_length c.fill.new.self c.args.marks.now c.size-n.result c.fill.ensures.len)) c.in_err-number.ensures.refused)

pub overflow_add-found : goal.overflow_add-found
overflow_add-found g c =
    let G = g.S.Source.graph c.args.source.now in
    let s = (g.met.S.Source.lawful c.args.source.now).small in
    let h = degeneracy_le G c.degeneracy-found.result.degeneracy c.degeneracy-found.ensures.degeneracy in
    record { fits = omega arith }

pub overflow_add-number : goal.overflow_add-number
overflow_add-number g c =
    let G = g.S.Source.graph c.args.source.now in
    let s = (g.met.S.Source.lawful c.args.source.now).small in
    let m = c.write_edges-m.result in
    let e = written G c.args.clashes.now c.write_edges-m.new.clashes m c.write_edges-m.ensures.value c.write_edges-m.ensures.edges in
    let h = number_le G (take (m - 0) c.write_edges-m.new.clashes) c.size-n.result c.args.living.now (c.fill-2.new.self ++ drop c.write_edges-m.result c.args.living.now) c.deepest.new.living m c.in_ok-number.number (c.write_edges-m.ensures.value ∙ sym (ap length e)) (omega (arith, c.if-m-eq0.false)) (λ k. filled_at c.fill-2.new.self c.args.living.now c.write_edges-m.result 1 k (omega (arith, c.in_ok-check.ensures.living_fit, c.write_edges-m.ensures.value)) (c.fill-2.ensures.after (λ y q. q))) c.in_ok-number.ensures.cases.0 in
    record { fits = omega (arith, c.size-n.ensures) }

pub returns : goal.returns
returns g c =
    let G = g.S.Source.graph c.args.source.now in
    let lw = g.met.S.Source.lawful c.args.source.now in
    let m = c.write_edges-m.result in
    let E = c.write_edges-m.ensures.edges in
    let v = c.write_edges-m.ensures.value in
    let e = written G c.args.clashes.now c.write_edges-m.new.clashes m v E in
    let full : (k : ℕ) → get_or (c.fill-2.new.self ++ drop c.write_edges-m.result c.args.living.now) k 0 ≡ cond (ltb k (edge_count G)) 1 (get_or c.args.living.now k 0) = subst (λ n. (k : ℕ) → get_or (c.fill-2.new.self ++ drop c.write_edges-m.result c.args.living.now) k 0 ≡ cond (ltb k n) 1 (get_or c.args.living.now k 0)) v (λ k. filled_at c.fill-2.new.self c.args.living.now c.write_edges-m.result 1 k (omega (arith, c.in_ok-check.ensures.living_fit, c.write_edges-m.ensures.value)) (c.fill-2.ensures.after (λ y q. q))) in
    let D = deepest_of G (take (m - 0) c.write_edges-m.new.clashes) c.size-n.result (c.fill-2.new.self ++ drop c.write_edges-m.result c.args.living.now) c.deepest.new.living c.in_ok-number.number e c.size-n.ensures c.in_ok-number.ensures.cases.0 in
    record {
      cases = capped_edged G lw c.args.clashes.now c.write_edges-m.new.clashes E c.args.living.now (c.fill-2.new.self ++ drop c.write_edges-m.result c.args.living.now) c.deepest.new.living c.in_ok-number.number full D (omega (arith, c.if-m-eq0.false)) c.args.marks.now (c.fill.new.self ++ drop c.size-n.result c.args.marks.now) c.deepest.new.marks c.size-n.result c.degeneracy-found.result.degeneracy c.min.result c.size-n.ensures c.degeneracy-found.ensures.degeneracy (λ k. filled_at c.fill.new.self c.args.marks.now c.size-n.result 0 k (omega (arith, c.in_ok-check.ensures.marks_fit, c.size-n.ensures)) (c.fill.ensures.after (λ y q. q))) c.in_ok-number.ensures.cases.1 c.min.ensures;
      refused = c.in_ok-check.ensures;
    }
