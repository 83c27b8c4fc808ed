use Rattle.std.proofs.Common.{◌≡◌, ℕ, ◌<◌, List, [], ◌∷◌, ◌++◌, length, sym, ap, ◌∙◌, arith, rules}
use Rattle.std.proofs.lemmas.List.{get_or-take, length-take-le}
use Rattle.finite.specs.Finite.{count}
use Rattle.finite.proofs.Members.{count_rise, length_members}
use Rattle.supports.specs.Peel.{alive}
use Rattle.supports.proofs.Peels.{alive_yes, alive_no}
use Rattle.cores.proofs.Rising.{members_none, members_yes, members_no}
use Rattle.cores.proofs.living.list_living.Goals as goal
use Rattle.cores.proofs.living.list_living.Goals.{then-lives-eq1+in_ok-ok, else-lives-eq1}

pub loop-c-init : goal.loop-c-init
loop-c-init g c = c.new-list.ensures ∙ members_none (alive c.args.n c.args.living.now)

pub returns-in_err-ok : goal.returns-in_err-ok
returns-in_err-ok g c =
    let n = c.args.n in
    let s = alive n c.args.living.now in
    let i = c.loop-c.c in
    let living = c.args.living.now in
    let l : i < n = omega (arith, length-take-le n living c.requires.lives, c.loop-c-test.true) in
    let y = alive_yes n living i l (omega (arith, get_or-take n living i 0 l, c.if-lives-eq1.true)) in
    let full : length c.loop-c.list.items ≡ g.row.N = search rules in
    let h : g.row.N < count s n = omega (arith, full, ap (λ (xs : List ℕ). length xs) c.loop-c.invariant, length_members s i, count_rise s i n l y) in
    search rules

pub loop-c-preserved : goal.loop-c-preserved
loop-c-preserved g c =
    let n = c.args.n in
    let living = c.args.living.now in
    let s = alive n living in
    let i = c.loop-c.c in
    let l : i < n = omega (arith, length-take-le n living c.requires.lives, c.loop-c-test.true) in
    let e = get_or-take n living i 0 l in
    elim c.if-lives-eq1.branch [
      | then-lives-eq1+in_ok-ok w ↦ let y = alive_yes n living i l (omega (arith, e, w.if-lives-eq1.true)) in
          let p : w.try_push.new.self.items ≡ c.loop-c.list.items ++ i ∷ [] = search rules in
          ap (λ v. v.items) w.list-is ∙ p ∙ ap (λ (xs : List ℕ). xs ++ i ∷ []) c.loop-c.invariant ∙ sym (members_yes s i y)
      | else-lives-eq1 w ↦ let y = alive_no n living i (λ z. w.if-lives-eq1.false (omega (arith, e, z))) in
          ap (λ v. v.items) w.list-is ∙ c.loop-c.invariant ∙ sym (members_no s i y)
    ]
