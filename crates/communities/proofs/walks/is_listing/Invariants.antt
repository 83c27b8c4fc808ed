use Rattle.std.proofs.Common.{◌≡◌, ℕ, ◌<◌, None}
use Rattle.cohesion.proofs.Places.{prev, RightAt}
use Rattle.communities.proofs.walks.is_listing.Given as goal

abbrev pub invariant-loop-e : goal.invariant-loop-e
invariant-loop-e l = (l.previous ≡ prev None l.list l.e-index) × ((i : ℕ) → i < l.e-index → RightAt l.n None l.list i)
