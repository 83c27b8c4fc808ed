use Rattle.std.proofs.Common.{◌≡◌, ℕ, ◌+◌, ◌<◌, Bool, true, not, ◌&&◌, eqb, rules, refl, ap, ◌∙◌}
use Rattle.std.proofs.lemmas.Bool.{and_right, eq-eqb, ne_eqb}
use Rattle.finite.specs.Finite.{count}
use Rattle.finite.specs.Masks.{bit}
use Rattle.finite.proofs.Counts.{count_less}
use Rattle.masks.proofs.MembersIterator.next.Goals as goal

-- without one member there is one fewer
one_fewer : (p q : ℕ → Bool) (i n : ℕ) → i < n → p i ≡ true → ((j : ℕ) → q j ≡ (p j && not (eqb j i))) → count p n ≡ count q n + 1
one_fewer p q i n l y e =
    count_less p q i n l y (e i ∙ and_right (p i) (not (eqb i i)) (ap not (eq-eqb i i refl))) (λ j ne. let f : not (eqb j i) ≡ true = ap not (ne_eqb j i ne) in search (rules, e j))

pub returns-clause-goes : goal.returns-clause-goes
returns-clause-goes c =
    let f = one_fewer (bit c.args.self.now.rest) (bit c.without-self.result) c.lowest-i.result 64 c.lowest-i.ensures.place c.lowest-i.ensures.member c.without-self.ensures.members in
    search rules
