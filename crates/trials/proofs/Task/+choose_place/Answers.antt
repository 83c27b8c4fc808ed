use Rattle.std.proofs.Common.{◌≡◌, ℕ, ◌+◌, min, List, set, sym, ap, ◌∙◌, subst, arith, rules}
use Rattle.kernels.specs.Kernels.{places, joined}
use Rattle.finite.specs.Finite.{count}
use Rattle.placings.specs.Colours.{at}
use Rattle.placings.specs.Tries.{blank}
use Rattle.trials.specs.Trials.{Chosen, ReadyAt, LeftAt}
use Rattle.placings.proofs.Steps.{blank_fewer, put_undone, no_put, stuck_last, chosen_page, chosen_next, placed_cut, filled_all, filled_back, ready_more, ready_room, left_fewer}
use Rattle.trials.proofs.Task.+choose_place.Goals as goal
use Rattle.trials.proofs.Task.+choose_place.Goals.{choose-then-base-self-via-then-base-self, choose-then-base-self-via-else-base-self+then-base-used}

pub choose-returns-then-base-self : goal.choose-returns-then-base-self
choose-returns-then-base-self t c =
    stuck_last (places c.args.self.now.kernel.now) (joined c.args.self.now.kernel.now) c.args.self.now.k c.args.place c.args.base c.args.left (min c.args.self.now.k (c.args.used + 1)) c.args.table.now c.if-left-eq0.true
    (elim c.then-base-self.branch [
      | choose-then-base-self-via-then-base-self w ↦ omega (arith, w.if-base-self.true)
      | choose-then-base-self-via-else-base-self+then-base-used w ↦ omega (arith, w.if-base-used.true)
    ])

pub choose-returns-then-left-eq0 : goal.choose-returns-then-left-eq0
choose-returns-then-left-eq0 t c =
    chosen_page (places c.args.self.now.kernel.now) (joined c.args.self.now.kernel.now) c.args.self.now.k c.args.place c.args.base c.args.left c.open-left.result (min c.args.self.now.k (c.args.used + 1)) c.args.table.now c.choose.new.table c.choose.result c.requires.place c.if-left-eq0.true c.open-left.ensures c.choose.ensures

pub choose-returns : goal.choose-returns
choose-returns t c =
    let q = c.args.self.now.kernel.now in
    let k = c.args.self.now.k in
    let p = c.args.place in
    let base = c.args.base in
    let j = c.lowest-j.result in
    let d : ℕ = base + j + 1 in
    let top : ℕ = min k (c.args.used + 1) in
    let old = c.args.table.now in
    let after = c.choose-2.new.table in
    let rest = c.without-left.result in
    let s = c.if-place.ensures in
    let back : set c.place.new.table p 0 ≡ old = ap (λ (v : List ℕ). set v p 0) s.same ∙ put_undone old p d c.requires.blank in
    chosen_next (places q) (joined q) k p base c.args.left rest j top old after c.choose-2.result (no_put (places q) (joined q) k p d old c.place.new.table (omega (arith, c.requires.ready.long, c.requires.place)) s) c.without-left.ensures.members
    (subst (λ (v : List ℕ). Chosen q k p base rest c.args.used v after c.choose-2.result) back c.choose-2.ensures)

pub choose-place-requires : goal.choose-place-requires
choose-place-requires t c =
    let q = c.args.self.now.kernel.now in
    let k = c.args.self.now.k in
    let p = c.args.place in
    let used = c.args.used in
    let j = c.lowest-j.result in
    let d : ℕ = c.args.base + j + 1 in
    let old = c.args.table.now in
    let m = c.lowest-j.ensures.member in
    let hi = c.requires.left.high j m in
    let fewer = blank_fewer (places q) p d old c.requires.place c.requires.ready.long c.requires.blank (omega arith) in (
      search rules,
      subst (λ (u : ℕ). ReadyAt q k u (set old p d)) (sym c.max.ensures) (ready_more (places q) (joined q) k used p d old q.even q.loopless c.requires.ready c.requires.place c.requires.blank (omega arith) (omega arith) (omega arith) (c.requires.left.free j m)),
    )

pub choose-choose-requires-2 : goal.choose-choose-requires-2
choose-choose-requires-2 t c =
    let q = c.args.self.now.kernel.now in
    let p = c.args.place in
    let j = c.lowest-j.result in
    let d : ℕ = c.args.base + j + 1 in
    let old = c.args.table.now in
    let s = c.if-place.ensures in
    let back : set c.place.new.table p 0 ≡ old = ap (λ (v : List ℕ). set v p 0) s.same ∙ put_undone old p d c.requires.blank in
    let k = c.args.self.now.k in
    let base = c.args.base in
    let used = c.args.used in
    let top : ℕ = min k (used + 1) in
    let rest = c.without-left.result in
    let again : count (blank (set c.place.new.table p 0)) (places q) ≡ count (blank old) (places q) = ap (λ (v : List ℕ). count (blank v) (places q)) back in (
      search rules,
      (
        subst (λ (v : List ℕ). ReadyAt q k used v) (sym back) c.requires.ready,
        (
          c.requires.place,
          (
            subst (λ (v : List ℕ). at v p ≡ 0) (sym back) c.requires.blank,
            (
              c.requires.low,
              (
                c.requires.high,
                subst (λ (v : List ℕ). LeftAt q v p base used k rest) (sym back) (left_fewer (places q) (joined q) old p base top c.args.left rest j c.requires.left c.without-left.ensures.members),
              ),
            ),
          ),
        ),
      ),
    )

pub place-open-left-requires : goal.place-open-left-requires
place-open-left-requires t c =
    let q = c.args.self.now.kernel.now in
    let at = c.in-Some.ensures in
    record { place = at.0; long = c.requires.long; low = omega arith; high = ready_room (places q) (joined q) c.args.self.now.k c.args.used c.in-Some.place c.args.table.now c.requires at.0 at.1 }

pub place-choose-requires : goal.place-choose-requires
place-choose-requires t c =
    let q = c.args.self.now.kernel.now in
    let at = c.in-Some.ensures in (
      search rules,
      (
        c.requires,
        (
          at.0,
          (
            at.1,
            (
              omega arith,
              (
                ready_room (places q) (joined q) c.args.self.now.k c.args.used c.in-Some.place c.args.table.now c.requires at.0 at.1,
                c.open-left.ensures.left,
              ),
            ),
          ),
        ),
      ),
    )

pub place-returns-in-Some : goal.place-returns-in-Some
place-returns-in-Some t c =
    let q = c.args.self.now.kernel.now in
    placed_cut (places q) (joined q) c.args.self.now.k c.in-Some.place c.args.used c.open-left.result c.args.table.now c.choose.new.table c.choose.result c.requires c.in-Some.ensures.0 c.open-left.ensures c.choose.ensures

pub choose-returns-then-place : goal.choose-returns-then-place
choose-returns-then-place t c =
    let q = c.args.self.now.kernel.now in
    filled_back (places q) (joined q) c.args.self.now.k c.args.place (c.args.base + c.lowest-j.result + 1) c.args.table.now c.place.new.table c.requires.place c.if-place.ensures

pub place-returns-in-None : goal.place-returns-in-None
place-returns-in-None t c =
    let q = c.args.self.now.kernel.now in
    filled_all (places q) (joined q) c.args.self.now.k c.args.used c.args.table.now c.requires c.in-None.ensures
