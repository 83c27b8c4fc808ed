use Rattle.std.proofs.Common.{◌≡◌, ℕ, refl, subst, arith}
use Rattle.std.proofs.lemmas.List.{length-take-le, get_or-take}
use Rattle.tally.proofs.Starts.{LayingOut, out_none, out_more, out_fits, out_within, begun}
use Rattle.tally.proofs.state.Tally.totals.Goals as goal

pub loop-c-init : goal.loop-c-init
loop-c-init c = out_none c.args.self.lengths

pub overflow_add-sum : goal.overflow_add-sum
overflow_add-sum c =
    let t = c.args.self in
    let z = length-take-le t.n t.lengths (omega (arith, t.small)) in
    let e = get_or-take t.n t.lengths c.loop-c.c 0 (omega arith) in
    let h = out_fits t.lengths c.loop-c.c t.clashes (omega arith) (omega (arith, t.small)) t.total t.few in
    omega (arith, c.loop-c.invariant.so_far, t.few)

pub loop-c-preserved : goal.loop-c-preserved
loop-c-preserved c =
    let t = c.args.self in
    let z = length-take-le t.n t.lengths (omega (arith, t.small)) in
    let e = get_or-take t.n t.lengths c.loop-c.c 0 (omega arith) in
    rw e (out_more t.lengths c.loop-c.next c.loop-c.sum c.loop-c.c (omega arith) (omega (arith, t.small)) c.loop-c.invariant)

-- the loop is over
whole : (c : goal.After-lengths-1) → LayingOut c.args.self.lengths c.loop-c.next c.loop-c.sum c.args.self.n
whole c =
    let z = length-take-le c.args.self.n c.args.self.lengths (omega (arith, c.args.self.small)) in
    let e : c.loop-c.c ≡ c.args.self.n = omega arith in
    subst (λ (i : ℕ). LayingOut c.args.self.lengths c.loop-c.next c.loop-c.sum i) e c.loop-c.invariant

pub invariant_of-result : goal.invariant_of-result
invariant_of-result c =
    record { small = c.args.self.small; few = c.args.self.few; places = out_within c.args.self.lengths c.loop-c.next c.loop-c.sum c.args.self.n c.args.self.clashes (omega arith) c.args.self.small (whole c) c.args.self.total c.args.self.few }

pub returns : goal.returns
returns c = λ n es s.
    let z = length-take-le c.args.self.n c.args.self.lengths (omega (arith, c.args.self.small)) in
    let e : c.loop-c.c ≡ c.args.self.n = omega arith in
    begun n es c.args.self _ c.loop-c.sum s (omega arith) c.args.self.small refl refl refl refl refl refl
    (subst (λ (i : ℕ). LayingOut c.args.self.lengths c.loop-c.next c.loop-c.sum i) e c.loop-c.invariant)
