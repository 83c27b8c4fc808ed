use Rattle.std.proofs.Common.{◌≡◌, ℕ, ◌<◌, ◌≤◌, ◌++◌, drop, length, replicate, refl, arith, rules}
use Rattle.std.proofs.lemmas.List.{get_or-replicate, length-replicate}
use Rattle.kernels.specs.Kernels.{places, joined}
use Rattle.placings.specs.Colours.{at}
use Rattle.placings.proofs.Steps.{ready_none, none_at_all, colours_same}
use Rattle.trials.proofs.Fronts.{at_front, past_front}
use Rattle.trials.proofs.colour.Goals as goal

pub place-requires : goal.place-requires
place-requires c =
    let q = c.args.kernel.now in
    let z : (i : ℕ) → i < places q → at (replicate 256 0) i ≡ 0 = λ i l. get_or-replicate 256 i 0 0 (omega (arith, q.small)) in
    ready_none (places q) (joined q) c.args.k (replicate 256 0) (omega (arith, length-replicate {A = ℕ} 256 0, q.small)) z

pub returns-then-not-place : goal.returns-then-not-place
returns-then-not-place c =
    let q = c.args.kernel.now in
    let z : (i : ℕ) → i < places q → at (replicate 256 0) i ≡ 0 = λ i l. get_or-replicate 256 i 0 0 (omega (arith, q.small)) in
    record { none = none_at_all (places q) (joined q) c.args.k (replicate 256 0) c.place.new.table z c.if-not-place.ensures; same = refl }

pub returns : goal.returns
returns c =
    let q = c.args.kernel.now in
    let n = c.count-n.result in
    let xs = c.copy_from_slice.new.self in
    let found = c.place.new.table in
    let l : n ≤ length found = search rules in
    let s = c.if-not-place.ensures in
    record {
      colours = colours_same (places q) (joined q) c.args.k (at found) (at (xs ++ drop n c.args.table.now)) (λ i m. at_front xs found c.args.table.now n i c.copy_from_slice.ensures.after l (omega (arith, c.count-n.ensures.value))) s.colours;
      rest = λ i m. past_front xs found c.args.table.now n i c.copy_from_slice.ensures.after l (omega (arith, c.count-n.ensures.value));
    }
