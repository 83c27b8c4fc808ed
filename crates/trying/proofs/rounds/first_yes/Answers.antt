use Rattle.std.proofs.Common.{◌≡◌, ℕ, ◌<◌, ◌≤◌, subst, inl, inr, arith}
use Rattle.std.proofs.lemmas.Bool.{cases_lt}
use Rattle.placings.specs.Colours.{Colours}
use Rattle.kernels.specs.Kernels.{places, joined}
use Rattle.kernels.specs.declared.shape.Kernel.{Kernel}
use Rattle.trying.proofs.Pulls.{plenty}
use Rattle.trying.proofs.rounds.first_yes.Goals as goal

-- a no is below 256
below : (q : Kernel) (k : ℕ) → ((f : ℕ → ℕ) → Colours (places q) (joined q) k f → ⊥) → k < 256
below q k none =
    elim (cases_lt k 256) [ inl l ↦ l | inr l ↦ absurd (none _ (plenty (places q) (joined q) k (omega (arith, q.small)) q.loopless)) ]

pub overflow_add-k : goal.overflow_add-k
overflow_add-k c = let h = below c.args.kernel.now c.loop-k.k c.loop-k-test.ensures.none in omega arith

pub loop-k-smaller : goal.loop-k-smaller
loop-k-smaller c = let h = below c.args.kernel.now c.loop-k.k c.loop-k-test.ensures.none in omega arith

pub loop-k-preserved : goal.loop-k-preserved
loop-k-preserved c =
    let q = c.args.kernel.now in
    let no : (j : ℕ) → c.args.from ≤ j → j < c.loop-k.k → (f : ℕ → ℕ) → Colours (places q) (joined q) j f → ⊥ = c.loop-k.invariant.2 in (
      omega arith,
      omega arith,
      λ j l h f w. elim (cases_lt j c.loop-k.k) [
        | inl m ↦ no j l m f w
        | inr m ↦ let e : j ≡ c.loop-k.k = omega arith in c.loop-k-test.ensures.none f (subst (λ (i : ℕ). Colours (places q) (joined q) i f) e w)
      ],
    )
