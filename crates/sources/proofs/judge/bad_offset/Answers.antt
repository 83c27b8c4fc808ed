use Rattle.std.proofs.Common.{ℕ, ◌<◌, ◌≤◌, List, length, MatchOption, Option, Some, None, arith, rules, tests}
use Rattle.std.proofs.lemmas.Iterator.{first_from_Range}
use Rattle.rows.specs.Rows.{SoundOffset, SoundOffsets, FirstBadOffset}
use Rattle.sources.proofs.judge.bad_offset.Goals as goal

first_bad : (os : List ℕ) (total : ℕ) (r : Option ℕ) → 0 < length os → MatchOption r ((k : ℕ) → 0 ≤ k → k < length os → SoundOffset os total k) (λ i. (0 ≤ i) × (i < length os) × (SoundOffset os total i → ⊥) × ((k : ℕ) → 0 ≤ k → k < i → SoundOffset os total k)) → MatchOption r (SoundOffsets os total) (FirstBadOffset os total)
first_bad os total None p h = λ i l. h i (omega arith) (omega arith)
first_bad os total (Some i) p h = record { within = omega (arith, h.1); bad = h.2; before = λ j l. h.3 j (omega arith) l }

pub returns : goal.returns
returns c =
    let os = c.args.offsets.now in
    let Yes : ℕ → Type 0 = λ k. SoundOffset os c.args.total k → ⊥ in
    let No : ℕ → Type 0 = SoundOffset os c.args.total in
    let p : 0 < length os = search rules in
    first_bad os c.args.total c.find.result p (first_from_Range _ _ _ c.find.result Yes No c.find.ensures.ran (λ x q k. search (rules, tests)) (λ x q k. search (rules, tests)))
