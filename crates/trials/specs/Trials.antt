-- What the trial of a kernel and its parts answer.
use Rattle.std.specs.Prelude.{◌≡◌, ℕ, ◌+◌, ◌<◌, min, Bool, List, MatchBool, Option, MatchOption, ◌≢◌}
use Rattle.placings.specs.Colours.{at}
use Rattle.placings.specs.Tries.{Ready, Filled, Stuck, StuckIn, Left, Open, Found, Impossible}
use Rattle.kernels.specs.Kernels.{places, joined}
use Rattle.kernels.specs.declared.shape.Kernel.{Kernel}

-- the places that have a colour have different ones in 1 to k where they are joined, none above `used`
abbrev pub ReadyAt : Kernel → ℕ → ℕ → List ℕ → Type 0
ReadyAt q k used table = Ready (places q) (joined q) k used table

-- the place has no colour yet, or every place has one
abbrev pub Picked : Kernel → List ℕ → Option ℕ → Type 0
Picked q table r =
    MatchOption r ((i : ℕ) → i < places q → at table i ≢ 0) (λ c. (c < places q) × (at table c ≡ 0))

-- the colours of the mask are free at c; and all that are free are in it
abbrev pub LeftAt : Kernel → List ℕ → ℕ → ℕ → ℕ → ℕ → ℕ → Type 0
LeftAt q table c base used k m = Left (places q) (joined q) table c base (min k (used + 1)) m

abbrev pub OpenAt : Kernel → List ℕ → ℕ → ℕ → ℕ → ℕ → ℕ → Type 0
OpenAt q table c base used k m = Open (places q) (joined q) table c base (min k (used + 1)) m

-- the answers: of the places that have no colour; of place c with the colours that are left; of the whole
abbrev pub Placed : Kernel → ℕ → List ℕ → List ℕ → Bool → Type 0
Placed q k before after r =
    MatchBool r (Filled (places q) (joined q) k before after) (Stuck (places q) (joined q) k before after)

abbrev pub Chosen : Kernel → ℕ → ℕ → ℕ → ℕ → ℕ → List ℕ → List ℕ → Bool → Type 0
Chosen q k c base left used before after r =
    MatchBool r (Filled (places q) (joined q) k before after) (StuckIn (places q) (joined q) k c base left (min k (used + 1)) before after)

abbrev pub Tried : Kernel → ℕ → List ℕ → List ℕ → Bool → Type 0
Tried q k before after r =
    MatchBool r (Found (places q) (joined q) k before after) (Impossible (places q) (joined q) k before after)
