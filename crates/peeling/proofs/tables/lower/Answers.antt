use Rattle.std.proofs.Common.{◌≡◌, ℕ, ◌+◌, ◌<◌, ◌≤◌, true, cond, List, [], length, get_or, take, sym, subst, arith}
use Rattle.std.proofs.lemmas.List.{take_all}
use Rattle.std.proofs.lemmas.Bool.Decides.{nat_tests}
use Rattle.finite.specs.Finite.{count, has}
use Rattle.finite.proofs.Counts.{has_none, has_at}
use Rattle.supports.proofs.Queues.{low_more, low_positive}
use Rattle.peeling.proofs.tables.lower.Goals as goal

low_none : (xs : List ℕ) (k : ℕ) → get_or xs k 0 ≡ get_or xs k 0 + cond (has [] k) 1 0
low_none xs k = let h = has_none k in grind (arith, nat_tests)

whole : (out : List ℕ) (n : ℕ) → count (has out) n ≡ length out → count (has (take (length out) out)) n ≡ length out
whole out n m = subst (λ (xs : List ℕ). count (has xs) n ≡ length out) (sym (take_all (length out) out (omega arith))) m

pub loop-x-init : goal.loop-x-init
loop-x-init c = λ k. low_none c.args.counts.now k

pub bounds-counts-x : goal.bounds-counts-x
bounds-counts-x c =
    omega (arith, c.requires.within _ (has_at c.args.lost.now c.loop-x.x-index (omega arith)))

pub bounds-counts-x-in-loop-x : goal.bounds-counts-x-in-loop-x
bounds-counts-x-in-loop-x c =
    omega (arith, c.requires.within _ (has_at c.args.lost.now c.loop-x.x-index (omega arith)))

positive : (out before counts : List ℕ) (n j : ℕ) → count (has out) n ≡ length out → j < length out → ((k : ℕ) → get_or before k 0 ≡ get_or counts k 0 + cond (has (take j out) k) 1 0) → ((k : ℕ) → has out k ≡ true → 0 < get_or before k 0) → 1 ≤ get_or counts (get_or out j 0) 0
positive out before counts n j m l low pos =
    let h = low_positive out before counts n (length out) j (whole out n m) (omega arith) l low (pos (get_or out j 0) (has_at out j l)) in omega arith

pub overflow_sub-counts : goal.overflow_sub-counts
overflow_sub-counts c = positive c.args.lost.now c.args.counts.now c.loop-x.counts c.args.n c.loop-x.x-index c.requires.many (omega arith) c.loop-x.invariant c.requires.positive

pub loop-x-preserved : goal.loop-x-preserved
loop-x-preserved c =
    let out = c.args.lost.now in
    let j = c.loop-x.x-index in
    low_more out c.args.counts.now c.loop-x.counts c.args.n (length out) j _ (whole out c.args.n c.requires.many) (omega arith) (omega arith) c.loop-x.invariant (omega (arith, c.requires.within _ (has_at out j (omega arith)))) (omega (arith, positive out c.args.counts.now c.loop-x.counts c.args.n j c.requires.many (omega arith) c.loop-x.invariant c.requires.positive))

pub returns : goal.returns
returns c = λ k. subst (λ (xs : List ℕ). get_or c.args.counts.now k 0 ≡ get_or c.loop-x.counts k 0 + cond (has xs k) 1 0) (take_all c.loop-x.x-index c.args.lost.now (omega arith)) (c.loop-x.invariant k)
