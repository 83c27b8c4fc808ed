-- What peeling, cliques and colours have to do with one another.
use Rattle.std.specs.Prelude.{◌≡◌, ℕ, ◌-◌, ◌<◌, ◌≤◌, max, Bool, ◌⊎◌, List, length, slice_index}
use Rattle.graph.specs.Graph.{Graph, Lawful, clash}
use Rattle.graph.specs.Colourings.{Proper, ColouredIn, Coloured, ColourableIn, Colourable, used}
use Rattle.degeneracy.specs.Order.{survivors}
use Rattle.placings.specs.Colours.{Colours}
use Rattle.peels.specs.Peels.{Peeled, CoreLeft, IsPutBack, Lists, CliqueNumber}

-- what is left after peeling at b tells for each k from b on whether the graph has a colouring in 1 to k
abbrev pub KernelTells : Type 0
KernelTells =
    (g : Graph) (b k : ℕ) (p : List ℕ) → Lawful g → Peeled g b p → b ≤ k
    → (ColourableIn g (survivors g p) k → Colourable g k) × (Colourable g k → ColourableIn g (survivors g p) k)

-- b is the size of a largest clique, and what is left after peeling at b has a colouring in 1 to k, and, unless k is b, none in 1 to k - 1:
-- then a colouring of the graph in 1 to k uses k colours, and no proper colouring uses fewer
abbrev pub LeastColours : Type 0
LeastColours =
    (g : Graph) (b k : ℕ) (p : List ℕ) (col : ℕ → ℕ) → Lawful g → CliqueNumber g b → CoreLeft g b p → b ≤ k → Coloured g k col
    → (k ≡ b) ⊎ (ColourableIn g (survivors g p) (k - 1) → ⊥) → (used g col ≡ k) × ((new : ℕ → ℕ) → Proper g new → k ≤ used g new)

-- as many colours as a proper colouring uses suffice
abbrev pub UsedSuffice : Type 0
UsedSuffice = (g : Graph) (col : ℕ → ℕ) → Proper g col → Colourable g (used g col)

-- there is one way to put back
abbrev pub OneWayBack : Type 0
OneWayBack =
    (g : Graph) (p : List ℕ) (old col new : ℕ → ℕ) → IsPutBack g p old col → IsPutBack g p old new → (c : ℕ) → col c ≡ new c

-- putting back colours the whole graph, with no colour above k and the threshold
abbrev pub BackColoured : Type 0
BackColoured =
    (g : Graph) (p : List ℕ) (t k : ℕ) (old col : ℕ → ℕ) → Lawful g → Peeled g t p → ColouredIn g (survivors g p) k old → IsPutBack g p old col → Coloured g (max k t) col

-- places that are joined as the vertices of a set clash have the colourings of the set
pub record PictureTells : Type 0 where
  pub from_places : (g : Graph) (s : ℕ → Bool) (xs : List ℕ) (n : ℕ) (E : ℕ → ℕ → Bool) (k : ℕ) → Lists s xs → n ≡ length xs → ((i j : ℕ) → i < length xs → j < length xs → E i j ≡ clash g (slice_index xs i) (slice_index xs j)) → (f col : ℕ → ℕ) → ((i : ℕ) → i < length xs → col (slice_index xs i) ≡ f i) → Colours n E k f → ColouredIn g s k col
  pub to_places : (g : Graph) (s : ℕ → Bool) (xs : List ℕ) (n : ℕ) (E : ℕ → ℕ → Bool) (k : ℕ) → Lists s xs → n ≡ length xs → ((i j : ℕ) → i < length xs → j < length xs → E i j ≡ clash g (slice_index xs i) (slice_index xs j)) → (col : ℕ → ℕ) → ColouredIn g s k col → Colours n E k (λ i. col (slice_index xs i))
