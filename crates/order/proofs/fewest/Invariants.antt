use Rattle.std.proofs.Common.{◌≡◌, ℕ, ◌<◌, false, get_or, MatchOption}
use Rattle.finite.specs.Finite.{Fewest}
use Rattle.order.proofs.fewest.Given as goal

abbrev pub invariant-loop-c : goal.invariant-loop-c
invariant-loop-c l =
    MatchOption l.best ((k : ℕ) → k < l.c → get_or l.alive k false ≡ false) (λ x. Fewest (λ k. get_or l.alive k false) (λ k. get_or l.left k 0) l.c x)
