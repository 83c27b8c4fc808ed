use mathlib.Core.Path.{◌≡◌, ap, sym, ◌∙◌}
use mathlib.Core.Bool.{true}
use Prim.Native.Nat.{ℕ, suc, ◌+◌, ◌-◌, ◌*◌, ◌/◌, ◌%◌, ◌^◌, ◌≤◌, ◌<◌}
use native.Mathlib.Nat.{pow-suc}
use native.Mathlib.Omega.{arith}
use lib.Arith.{digits_div}
use lib.Count.{count_leading_zeros, leading_top}
use lib.Dec.{eqb}
use Rattle.finite.specs.Masks.{bit}
use Rattle.finite.proofs.Masks.{bit_within}
use Rattle.masks.proofs.highest.Goals as goal

-- the highest digit is a member
bit_top : (m j : ℕ) → 2 ^ j ≤ m → m < 2 ^ suc j → bit m j ≡ true
unfolding bit
bit_top m j l h =
    let p = pow-suc 2 j in
    let r : 1 * 2 ^ j + (m - 2 ^ j) ≡ m = omega arith in
    let d = digits_div 1 {m = 2 ^ j} {r = m - 2 ^ j} (omega arith) in
    let e : m / 2 ^ j ≡ 1 = ap (λ (x : ℕ). x / 2 ^ j) (sym r) ∙ d in
    ap (λ (x : ℕ). eqb (x % 2) 1) e

pub returns : goal.returns
returns c =
    let m = c.args.m in
    let t = leading_top 64 m c.requires (omega arith) in
    let e : 63 - count_leading_zeros 64 m ≡ t.0 = omega (arith, t.1) in
    record { place = omega arith; member = ap (bit m) e ∙ bit_top m t.0 t.2 t.3; most = λ j b. omega (arith, bit_within (suc t.0) m j t.3 b) }
