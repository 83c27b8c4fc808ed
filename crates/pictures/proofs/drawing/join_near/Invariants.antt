use Rattle.std.proofs.Common.{◌≡◌, ℕ, ◌<◌, Bool, false, length, get_or}
use Rattle.grids.specs.Draws.{Drawn}
use Rattle.pictures.specs.Pictures.{joined, places}
use Rattle.pictures.proofs.drawing.join_near.Given as goal

abbrev pub invariant-loop-j : goal.invariant-loop-j
invariant-loop-j g l =
    (places l.picture ≡ length l.chosen)
    × ((e : ℕ → ℕ → Bool) → ((a b : ℕ) → e a b ≡ e b a) → ((a : ℕ) → e a a ≡ false) → ((j : ℕ) (r : Bool) → j < l.i → goal.F-post g l.near (get_or l.chosen j 0) r → r ≡ e l.i j) → Drawn e (joined l.initial.picture) l.i 0 → Drawn e (joined l.picture) l.i l.j)
