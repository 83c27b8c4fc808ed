use Rattle.std.proofs.Common.{◌≡◌, ℕ, ◌+◌, ◌-◌, ◌*◌, min, ◌&&◌, ltb, sym, ap, ◌∙◌, subst, arith}
use Rattle.finite.specs.Masks.{bit}
use Rattle.kernels.specs.Kernels.{places, joined, word_at}
use Rattle.placings.specs.Tries.{Near}
use Rattle.placings.proofs.Words.{near_none, near_more, near_past}
use Rattle.trials.proofs.Task.taken_near.Goals as goal
use Rattle.trials.proofs.Task.taken_near.Goals.{then-from-n, else-from-n}

pub loop-w-init : goal.loop-w-init
loop-w-init c =
    let q = c.args.self.now.kernel.now in
    near_none (places q) (joined q) c.args.table.now c.args.c c.args.base

pub loop-w-preserved : goal.loop-w-preserved
loop-w-preserved c =
    let q = c.args.self.now.kernel.now in
    let p = c.args.c in
    let w = c.loop-w.w in
    let n = c.count-n.ensures.value in
    let P = λ (m : ℕ). Near (places q) (joined q) c.args.table.now p (64 * (w + 1)) c.args.base m in
    elim c.if-from-n.branch [
      | then-from-n v ↦ let m : ℕ = min (places q - 64 * w) 64 in
          let e : v.min.result ≡ m = omega (arith, v.min.ensures) in
          let is : (j : ℕ) → bit v.meet-row.result j ≡ (bit (word_at q p w) j && ltb j m) = λ j. v.meet-row.ensures.members j ∙ ap (λ (x : ℕ). bit x j && bit v.below.result j) (v.word.ensures (omega (arith, c.requires.place, q.small)) (omega arith)) ∙ ap (λ b. bit (word_at q p w) j && b) (v.below.ensures j ∙ ap (ltb j) e) in
          subst P (sym v.taken-is) (near_more (places q) q.rows c.args.table.now p w c.args.base v.meet-row.result c.loop-w.taken v.worn-taken.result c.loop-w.invariant is v.worn-taken.ensures)
      | else-from-n v ↦ subst P (sym v.taken-is) (near_past (places q) (joined q) c.args.table.now p w c.args.base c.loop-w.taken c.loop-w.invariant (omega (arith, v.if-from-n.false)))
    ]
