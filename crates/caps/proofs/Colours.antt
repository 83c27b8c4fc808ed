-- The core rule for colours.
use Rattle.std.proofs.Common.{◌≡◌, ℕ, zero, suc, ◌<◌, ◌≤◌, Bool, true, false, not, ◌||◌, ltb, sym, ap, ◌∙◌, inl, inr, arith}
use Rattle.std.proofs.lemmas.Bool.{both_ways, not-true, not-false, ltb-true, ltb-false, or_parts, or_cases}
use Rattle.finite.specs.Finite.{count}
use Rattle.finite.specs.Supports.{Within}
use Rattle.finite.proofs.Counts.{count_less, count_pos}
use Rattle.finite.proofs.Pigeons.{some_fails}
use Rattle.graph.specs.Graph.{Graph, Lawful, held, inside}
use Rattle.graph.specs.Colourings.{ColourableIn}
use Rattle.graph.specs.Degeneracy.{CoreOf}
use Rattle.graph.proofs.Graphs.{held_below, inside_mono}
use Rattle.colourings.proofs.Coloured.{coloured_fewer, coloured_same, coloured_add, free_colour, painted, painted_at, painted_off}
use Rattle.supports.specs.Peel.{but}
use Rattle.supports.proofs.Draining.{but_self, but_same, but_other}
use Rattle.caps.specs.Theorems.{CoreRule}

colours_fewer : (g : Graph) (s u : ℕ → Bool) (k : ℕ) → Within u s → ColourableIn g s k → ColourableIn g u k
colours_fewer g s u k w c = (c.0, coloured_fewer g u s k c.0 w c.1)

-- one more vertex with few neighbours
one_more : (g : Graph) → Lawful g → (u : ℕ → Bool) (x k : ℕ) → u x ≡ true → inside g u x < k → ColourableIn g (but u x) k → ColourableIn g u k
one_more g lw u x k y few c =
    let v = but u x in
    let f = free_colour g v k c.0 x (omega (arith, inside_mono g v u x (λ b z. (but_other u x b z).0))) in
    let col = painted c.0 x f.0 in
    let at = painted_at c.0 x f.0 in
    let off : (b : ℕ) → v b ≡ true → c.0 b ≡ col b = λ b z. sym (painted_off c.0 x f.0 b (but_other u x b z).1) in (
      col,
      coloured_add g u v k col x lw (λ b ne z. but_same u x b ne ∙ z) (omega (arith, at, f.1)) (omega (arith, at, f.2)) (λ b z e q. f.3 b z (c.1.low b z) e (off b z ∙ q ∙ at)) (coloured_same g v k c.0 col off c.1),
    )

module _ (g : Graph) (lw : Lawful g) (t k : ℕ) (s : ℕ → Bool) (is : CoreOf g t s) (l : t ≤ k) (c : ColourableIn g s k) where
  -- whether a vertex of the set has t neighbours in it, or is not in it
  strong : (ℕ → Bool) → ℕ → Bool
  strong u a = not (u a) || not (ltb (inside g u a) t)

  weak_parts : (u : ℕ → Bool) (a : ℕ) → strong u a ≡ false → (u a ≡ true) × (inside g u a < t)
  unfolding strong
  weak_parts u a e =
      let h = or_parts (not (u a)) (not (ltb (inside g u a) t)) e in
      (not-false (u a) h.0, ltb-true (inside g u a) t (not-false (ltb (inside g u a) t) h.1))

  strong_part : (u : ℕ → Bool) (a : ℕ) → strong u a ≡ true → u a ≡ true → t ≤ inside g u a
  unfolding strong
  strong_part u a e y =
      elim (or_cases (not (u a)) (not (ltb (inside g u a) t)) e) [
        | inl h ↦ absurd (both_ways (u a) (not-true (u a) h) y)
        | inr h ↦ ltb-false (inside g u a) t (not-true (ltb (inside g u a) t) h)
      ]

  -- each set between the core and the graph, by how many vertices it has
  between : (n : ℕ) (u : ℕ → Bool) → count u g.size ≤ n → Within s u → Within u (held g) → ColourableIn g u k
  between zero u h a b =
      elim (some_fails (strong u) g.size) [
        | inl r ↦ absurd (omega (arith, count_pos u g.size r.0 r.1 (weak_parts u r.0 r.2).0))
        | inr f ↦ colours_fewer g s u k (is.covers u (record { within = b; each = λ v y. strong_part u v (f v (held_below g v (b v y))) y })) c
      ]
  between (suc n) u h a b =
      elim (some_fails (strong u) g.size) [
        | inr f ↦ colours_fewer g s u k (is.covers u (record { within = b; each = λ v y. strong_part u v (f v (held_below g v (b v y))) y })) c
        | inl r ↦ let x = r.0 in
            let w = weak_parts u x r.2 in
            let less = count_less u (but u x) x g.size r.1 w.0 (but_self u x) (λ v ne. sym (but_same u x v ne)) in
            let out : s x ≡ true → ⊥ = λ y. omega (arith, is.supported.each x y, inside_mono g s u x a, w.1) in
            let rest = between n (but u x) (omega arith) (λ v y. but_same u x v (λ e. out (ap s (sym e) ∙ y)) ∙ a v y) (λ v y. b v (but_other u x v y).0) in
            one_more g lw u x k w.0 (omega (arith, w.1)) rest
      ]

pub core_rule : CoreRule
core_rule g t k s lw is l = (
  colours_fewer g (held g) s k is.supported.within,
  λ c. between g lw t k s is l c (count (held g) g.size) (held g) (omega arith) is.supported.within (λ v y. y),
)
