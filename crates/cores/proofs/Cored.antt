-- What peeling gives, over the vertices of a graph.
use Rattle.std.proofs.Common.{◌≡◌, ℕ, ◌<◌, ◌≤◌, true, false, cond, ltb, List, get_or, take, inl, inr, arith}
use Rattle.std.proofs.lemmas.Bool.{cases_Bool}
use Rattle.std.proofs.lemmas.Bool.Decides.{nat_tests}
use Rattle.graph.specs.declared.refusal.Refusal.{Refusal}
use Rattle.graph.specs.Graph.{Graph, held, inside}
use Rattle.graph.proofs.Graphs.{inside_mono}
use Rattle.finite.specs.Finite.{has}
use Rattle.supports.specs.Peel.{PeeledIn, without, alive}
use Rattle.supports.proofs.Peels.{peels_same, peels_member, largest_of_same, alive_below}
use Rattle.peeling.specs.Peeling.{PeelRefused}
use Rattle.cores.specs.Cores.{CoreIn}

-- 1 at each vertex and 0 at each other number below the size
abbrev pub Filled : Graph → List ℕ → List ℕ → Type 0
Filled g before after =
    (c : ℕ) → get_or after c 0 ≡ cond (ltb c g.size) (cond (held g c) 1 0) (get_or before c 0)

pub filled_alive : (g : Graph) (before after : List ℕ) → Filled g before after → (c : ℕ) → alive g.size after c ≡ held g c
unfolding alive
filled_alive g before after f c = let h = f c in grind (arith, nat_tests)

pub core_from : (g : Graph) (t : ℕ) (living mid living' taken taken' : List ℕ) (len : ℕ) → Filled g living mid → PeeledIn (inside g) g.size t mid living' taken taken' len → CoreIn g t living living' taken taken' len
unfolding without
core_from g t living mid living' taken taken' len f p =
    let e = filled_alive g living mid f in
    record {
      fits = p.fits;
      peels = peels_same (inside g) (inside_mono g) t (alive g.size mid) (held g) (take len taken') e p.peels;
      bytes = λ c l. let a = p.cleared c in let b = f c in grind (arith, nat_tests);
      core = largest_of_same (inside g) t (alive g.size mid) (held g) (alive g.size living') e p.largest;
      beyond = λ c l. let a = p.cleared c in let b = f c in
          let h : has (take len taken') c ≡ true → c < g.size = λ y. alive_below g.size mid c (peels_member (inside g) t (alive g.size mid) (take len taken') c p.peels y) in
          let z : has (take len taken') c ≡ false = elim (cases_Bool (has (take len taken') c)) [ inl y ↦ absurd (omega (arith, h y)) | inr y ↦ y ] in
          grind (arith, nat_tests);
      rest = p.rest;
    }

-- with room enough peeling vertices is not refused
pub never_refused : (n living marks taken : ℕ) (x : Refusal) → n < 1025 → n ≤ living → n ≤ taken → PeelRefused n 0 (Unit {0}) living marks taken x → ⊥
never_refused n living marks taken x s l t h =
    elim h [
      | inl a ↦ elim a [ inl b ↦ omega (arith, b.1) | inr b ↦ elim b.2 [ inl d ↦ omega arith | inr d ↦ elim d [ inl e ↦ omega arith | inr e ↦ omega arith ] ] ]
      | inr a ↦ a.2 tt
    ]
