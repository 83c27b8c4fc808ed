-- A graph of masks of jobs: two vertices are joined where they have a job in common.
use Rattle.std.specs.Prelude.{◌≡◌, ℕ, Bool, true, false, not, ◌&&◌, ◌||◌, List, length, ◌==◌, nat_lt, slice_index}
use Rattle.finite.specs.Finite.{any}
use Rattle.finite.specs.Masks.{bit}
use Rattle.graph.specs.Graph.{Graph, edges}
use Rattle.graph.specs.Refusals.{FormFault}
use Rattle.graph.specs.declared.refusal.Refusal.{Refusal}

-- whether some job is in both masks
unfoldable pub share : ℕ → ℕ → Bool
share x y = any (λ j. bit x j && bit y j) 64

abbrev pub sharing : List ℕ → Graph
sharing js =
    record {
      size = length js;
      listed = λ c. true;
      joined = λ a b. not (a == b) && share (slice_index js a) (slice_index js b);
    }

-- more vertices than 1,024, or more edges than 16,384
abbrev pub big : List ℕ → Bool
big js = nat_lt 1024 (length js) || nat_lt 16384 (edges (sharing js))

-- which refusal a list of masks gets
abbrev pub Fault : List ℕ → Refusal → Type 0
Fault js = FormFault (big js ≡ true) (λ part index. ⊥) (big js ≡ false)
