-- Colourings and sets: restriction, one more vertex.
use Rattle.std.proofs.Common.{◌≡◌, ℕ, ◌+◌, ◌-◌, ◌<◌, ◌≤◌, Bool, true, cond, ◌&&◌, eqb, sym, refl, ap, ◌∙◌, inl, inr, arith}
use Rattle.std.proofs.lemmas.Bool.{cases_eq, and_from, both_ways, eq-eqb, ne_eqb, cond-true, cond-false}
use Rattle.finite.proofs.Pigeons.{missed}
use Rattle.graph.specs.Graph.{Graph, Lawful, clash, inside}
use Rattle.graph.specs.Colourings.{Proper, ColouredIn, Coloured}
use Rattle.graph.proofs.Graphs.{held_below, clash_left, clash_right}

pub coloured_fewer : (g : Graph) (s t : ℕ → Bool) (k : ℕ) (col : ℕ → ℕ) → ((c : ℕ) → s c ≡ true → t c ≡ true) → ColouredIn g t k col → ColouredIn g s k col
coloured_fewer g s t k col f h =
    record { low = λ c y. h.low c (f c y); high = λ c y. h.high c (f c y); apart = λ a b y z. h.apart a b (f a y) (f b z) }

pub coloured_proper : (g : Graph) (k : ℕ) (col : ℕ → ℕ) → Coloured g k col → Proper g col
coloured_proper g k col h a b e = h.apart a b (clash_left g a b e) (clash_right g a b e) e

-- the colouring with another colour at x
pub painted : (ℕ → ℕ) → ℕ → ℕ → ℕ → ℕ
painted col x d c = cond (eqb c x) d (col c)

pub painted_at : (col : ℕ → ℕ) (x d : ℕ) → painted col x d x ≡ d
unfolding painted
painted_at col x d = cond-true (eqb x x) d (col x) (eq-eqb x x refl)

pub painted_off : (col : ℕ → ℕ) (x d c : ℕ) → (c ≡ x → ⊥) → painted col x d c ≡ col c
unfolding painted
painted_off col x d c ne = cond-false (eqb c x) d (col c) (ne_eqb c x ne)

pub coloured_same : (g : Graph) (s : ℕ → Bool) (k : ℕ) (col new : ℕ → ℕ) → ((c : ℕ) → s c ≡ true → col c ≡ new c) → ColouredIn g s k col → ColouredIn g s k new
coloured_same g s k col new e h =
    record {
      low = λ c y. omega (arith, e c y, h.low c y);
      high = λ c y. omega (arith, e c y, h.high c y);
      apart = λ a b y z k q. h.apart a b y z k (e a y ∙ q ∙ sym (e b z));
    }

-- x joins the set t, where none of its neighbours there has its colour
pub coloured_add : (g : Graph) (s t : ℕ → Bool) (k : ℕ) (col : ℕ → ℕ) (x : ℕ) → Lawful g → ((c : ℕ) → (c ≡ x → ⊥) → s c ≡ true → t c ≡ true) → 1 ≤ col x → col x ≤ k → ((b : ℕ) → t b ≡ true → clash g x b ≡ true → col b ≡ col x → ⊥) → ColouredIn g t k col → ColouredIn g s k col
coloured_add g s t k col x lw f one top free h =
    let ne : (b : ℕ) → clash g x b ≡ true → b ≡ x → ⊥ = λ b e q. both_ways (clash g x b) (ap (clash g x) q ∙ lw.never x) e in
    let mix : (b : ℕ) → s b ≡ true → clash g x b ≡ true → col b ≡ col x → ⊥ = λ b y e q. free b (f b (ne b e) y) e q in
    record {
      low = λ c y. elim (cases_eq c x) [ inl e ↦ omega (arith, ap col e) | inr e ↦ h.low c (f c e y) ];
      high = λ c y. elim (cases_eq c x) [ inl e ↦ omega (arith, ap col e) | inr e ↦ h.high c (f c e y) ];
      apart = λ a b y z e q. elim (cases_eq a x) [
        | inl i ↦ mix b z (ap (λ v. clash g v b) (sym i) ∙ e) (sym q ∙ ap col i)
        | inr ni ↦ elim (cases_eq b x) [
          | inl j ↦ mix a y (lw.both x a ∙ ap (clash g a) (sym j) ∙ e) (q ∙ ap col j)
          | inr nj ↦ h.apart a b (f a ni y) (f b nj z) e q
        ]
      ];
    }

-- fewer than k neighbours: one of the k colours is free
pub free_colour : (g : Graph) (s : ℕ → Bool) (k : ℕ) (col : ℕ → ℕ) (x : ℕ) → inside g s x < k → (d : ℕ) × (1 ≤ d) × (d ≤ k) × ((b : ℕ) → s b ≡ true → 1 ≤ col b → clash g x b ≡ true → col b ≡ d → ⊥)
unfolding inside
free_colour g s k col x l =
    let w = missed (λ b. s b && clash g x b) (λ b. col b - 1) g.size k l in
    (w.0 + 1, omega arith, omega (arith, w.1), λ b y one e q. w.2 b (held_below g b (clash_right g x b e)) (and_from (s b) (clash g x b) y e) (omega arith))
