-- Trying the kernel of a graph, one number of colours after another.
use Rattle.std.specs.Prelude.{◌≡◌, ℕ, ◌<◌, ◌≤◌, ◌⊎◌, List}
use Rattle.finite.specs.Finite.{count}
use Rattle.graph.specs.declared.refusal.Refusal.{Refusal}
use Rattle.graph.specs.declared.refusal.Refusal.TheVariants.{TooDense, TooWide}
use Rattle.graph.specs.Graph.{Graph}
use Rattle.order.specs.Order.{Dense}
use Rattle.graph.specs.Colourings.{Proper, Coloured, Colourable, used}
use Rattle.degeneracy.specs.Order.{survivors}
use Rattle.placings.specs.Colours.{Colours, at}
use Rattle.peels.specs.Peels.{CoreLeft, Lists, CliqueNumber}
use Rattle.kernels.specs.Kernels.{Draws, places, joined}
use Rattle.kernels.specs.declared.shape.Kernel.{Kernel}

-- after the list p is taken out, the t-core is left; it is listed, and drawn
pub record PulledIn (g : Graph) (t : ℕ) (chosen p : List ℕ) (q : Kernel) : Type 0 where
  pub left : CoreLeft g t p
  pub lists : Lists (survivors g p) chosen
  pub draws : Draws g chosen q
  pub few : places q ≤ 256

-- the t-core has more than 256 vertices
pub record Wide (g : Graph) (t : ℕ) : Type 0 where
  pub taken : List ℕ
  pub left : CoreLeft g t taken
  pub many : 256 < count (survivors g taken) g.size

-- k is the first number from `from` on in which there is a colouring, and the table holds one
pub record FirstYes (q : Kernel) (from k : ℕ) (table : List ℕ) : Type 0 where
  pub above : from ≤ k
  pub colours : Colours (places q) (joined q) k (at table)
  pub none : (j : ℕ) → from ≤ j → j < k → (f : ℕ → ℕ) → Colours (places q) (joined q) j f → ⊥

-- the largest clique has b vertices; from b to k - 1 there is no colouring, and this is one in 1 to k; it uses k, and
-- none uses fewer
pub record TriedOut (g : Graph) (b k : ℕ) (col : ℕ → ℕ) : Type 0 where
  pub clique : CliqueNumber g b
  pub above : b ≤ k
  pub none : (j : ℕ) → b ≤ j → j < k → Colourable g j → ⊥
  pub coloured : Coloured g k col
  pub uses : used g col ≡ k
  pub least : (new : ℕ → ℕ) → Proper g new → k ≤ used g new

-- the degeneracy is above 63, or else the core at the size of a largest clique has more than 256 vertices
pub record IsTooWide (g : Graph) : Type 0 where
  pub number : ℕ
  pub clique : CliqueNumber g number
  pub wide : Wide g number

abbrev pub TryRefused : Graph → Refusal → Type 0
TryRefused g x = ((x ≡ TooDense) × Dense g) ⊎ ((x ≡ TooWide) × IsTooWide g)
