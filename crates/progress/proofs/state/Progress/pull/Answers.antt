use Rattle.std.proofs.Common.{◌≡◌, ℕ, ◌≤◌, List, length, replicate, refl, ap, subst, inr, arith, rules}
use Rattle.finite.specs.Finite.{members}
use Rattle.finite.proofs.Members.{length_members}
use Rattle.supports.specs.Peel.{alive}
use Rattle.cores.specs.Cores.{CoreIn}
use Rattle.kernels.specs.Kernels.{Draws}
use Rattle.progress.proofs.Kernels.{pull_holds, block_size}
use Rattle.progress.proofs.state.Progress.pull.Goals as goal

pub returns : goal.returns
returns g c x y =
    let G = g.S.Source.graph c.args.source.now in
    let p = c.args.self.now in
    let after = c.core.new.living in
    let z : CoreIn G (length p.block.items) (replicate 1024 0) after (replicate 1024 0) c.core.new.taken c.in_ok-len.len = subst (λ (k : ℕ). CoreIn G k (replicate 1024 0) after (replicate 1024 0) c.core.new.taken c.in_ok-len.len) (omega (arith, c.len.ensures.value)) c.in_ok-len.ensures in
    let n = c.size.ensures in
    let m : c.in_ok-places.places.items ≡ members (alive c.size.result after) c.size.result = search rules in
    let found = subst (λ (k : ℕ). c.in_ok-places.places.items ≡ members (alive k after) k) n m in
    let w = subst (λ xs. Draws G xs c.draw.new.self) c.as_slice.ensures.value c.in_ok-draw.ensures.1 in
    let few : length c.in_ok-places.places.items ≤ 256 = omega (arith, c.as_slice.ensures.fits, ap (λ (xs : List ℕ). length xs) c.as_slice.ensures.value) in (
      record {
        size = length p.block.items;
        kernel = alive G.size after;
        is_kernel = record { block = block_size G _ x.climbs x.noes p y.numbers; core = z.core };
        answer = inr (refl, omega (arith, ap (λ (xs : List ℕ). length xs) found, length_members (alive G.size after) G.size));
      },
      pull_holds G x.climbs x.noes c.in_ok-len.len (replicate 1024 0) after (replicate 1024 0) c.core.new.taken p _ y (record { held = refl; degeneracy = refl; order = refl; block = refl; size = refl }) refl refl refl refl refl z c.front-self.ensures found w,
    )
