-- Colours for the kernel and for what was taken out.
use Rattle.std.proofs.Common.{◌≡◌, ℕ, ◌-◌, ◌<◌, ◌≤◌, max, List, get_or, take, subst, inl, inr, arith}
use Rattle.std.proofs.lemmas.Bool.{cases_lt}
use Rattle.graph.specs.declared.refusal.Refusal.{Refusal}
use Rattle.graph.specs.Graph.{Graph, Lawful}
use Rattle.graph.specs.Colourings.{Coloured, ColouredIn}
use Rattle.graph.proofs.Graphs.{held_below}
use Rattle.degeneracy.specs.Order.{survivors}
use Rattle.degeneracy.proofs.Orders.{survivors_held}
use Rattle.placings.specs.Colours.{at}
use Rattle.kernels.specs.Kernels.{places, joined}
use Rattle.kernels.specs.declared.shape.Kernel.{Kernel}
use Rattle.peels.specs.Peels.{CliqueNumber}
use Rattle.peels.proofs.Kernels.{kernel_needed, least_colours}
use Rattle.peels.proofs.Pictures.{to_graph, from_graph}
use Rattle.putback.specs.Backs.{paint, Laid, LayRefused, BackIn, BackRefused}
use Rattle.trying.specs.Trying.{PulledIn, FirstYes, TriedOut}

module _ (g : Graph) (b : ℕ) (chosen p : List ℕ) (q : Kernel) (lw : Lawful g) (h : PulledIn g b chosen p q) where
  pub lay_never : (drives room : ℕ) (x : Refusal) → drives ≡ 256 → room ≡ 1024 → LayRefused chosen drives room x → ⊥
  lay_never drives room x d r (inl u) = let s = h.draws.size in let f = h.few in omega (arith, u.1)
  lay_never drives room x d r (inr u) =
      let i = u.2.0 in
      let l = held_below g (get_or chosen i 0) (survivors_held g p (get_or chosen i 0) (h.lists.only i u.2.1)) in
      let s = lw.small in omega (arith, u.2.2)

  pub back_never : (room : ℕ) (x : Refusal) → room ≡ 1024 → BackRefused g.size p room x → ⊥
  back_never room x r (inl u) = let s = lw.small in omega (arith, u.1)
  back_never room x r (inr u) =
      let i = u.2.0 in
      let l = held_below g (get_or p i 0) (survivors_held g (take i p) (get_or p i 0) (h.left.peeled.taken i u.2.1)) in
      omega (arith, u.2.2)

  module _ (k : ℕ) (table before mid after : List ℕ) (cl : CliqueNumber g b) (first : FirstYes q b k table) (laid : Laid chosen table before mid) (back : BackIn g p mid after) where
    kernel_coloured : ColouredIn g (survivors g p) k (paint mid)
    kernel_coloured =
        to_graph g (survivors g p) chosen (places q) (joined q) k h.lists h.draws.size h.draws.joins (at table) (paint mid) (λ i l. laid.laid h.lists.once i l) first.colours

    whole : Coloured g k (paint after)
    whole =
        let a = first.above in
        let e : max k b ≡ k = omega arith in
        subst (λ (i : ℕ). Coloured g i (paint after)) e (back.coloured b k h.left.peeled kernel_coloured)

    none_in : (j : ℕ) → b ≤ j → j < k → (col : ℕ → ℕ) → ColouredIn g (survivors g p) j col → ⊥
    none_in j l m col w =
        first.none j l m _ (from_graph g (survivors g p) chosen (places q) (joined q) j h.lists h.draws.size h.draws.joins col w)

    pub settled : TriedOut g b k (paint after)
    settled =
        let a = first.above in
        let r = least_colours g b k p (paint after) lw cl h.left a whole (elim (cases_lt b k) [ inl l ↦ inr (λ v. none_in (k - 1) (omega arith) (omega arith) v.0 v.1) | inr l ↦ inl (omega arith) ]) in
        record {
          clique = cl;
          above = a;
          none = λ j l m v. (let w = kernel_needed g p j v in none_in j l m w.0 w.1);
          coloured = whole;
          uses = r.0;
          least = r.1;
        }
