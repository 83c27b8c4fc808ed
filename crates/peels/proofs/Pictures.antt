-- Colourings of places, and of the set that they show.
use Rattle.std.proofs.Common.{◌≡◌, ℕ, ◌<◌, Bool, true, List, length, get_or, sym, ap, ◌∙◌, arith}
use Rattle.graph.specs.Graph.{Graph, clash}
use Rattle.graph.specs.Colourings.{ColouredIn}
use Rattle.placings.specs.Colours.{Colours}
use Rattle.peels.specs.Peels.{Lists}

module _ (g : Graph) (s : ℕ → Bool) (xs : List ℕ) (n : ℕ) (E : ℕ → ℕ → Bool) (k : ℕ) (l : Lists s xs) (long : n ≡ length xs) (joins : (i j : ℕ) → i < length xs → j < length xs → E i j ≡ clash g (get_or xs i 0) (get_or xs j 0)) where
  pub to_graph : (f col : ℕ → ℕ) → ((i : ℕ) → i < length xs → col (get_or xs i 0) ≡ f i) → Colours n E k f → ColouredIn g s k col
  to_graph f col e w =
      let at : (c : ℕ) (y : s c ≡ true) → col c ≡ f (l.all c y).0 = λ c y. ap col (sym (l.all c y).2) ∙ e (l.all c y).0 (l.all c y).1 in
      let within : (c : ℕ) (y : s c ≡ true) → (l.all c y).0 < n = λ c y. (let m = (l.all c y).1 in omega arith) in
      record {
        low = λ c y. omega (arith, at c y, w.low (l.all c y).0 (within c y));
        high = λ c y. omega (arith, at c y, w.high (l.all c y).0 (within c y));
        apart = λ a b y z m p. w.apart (l.all a y).0 (l.all b z).0 (within a y) (within b z)
            (joins (l.all a y).0 (l.all b z).0 (l.all a y).1 (l.all b z).1 ∙ ap (λ v. clash g v (get_or xs (l.all b z).0 0)) (l.all a y).2 ∙ ap (clash g a) (l.all b z).2 ∙ m)
            (sym (at a y) ∙ p ∙ at b z);
      }

  pub from_graph : (col : ℕ → ℕ) → ColouredIn g s k col → Colours n E k (λ i. col (get_or xs i 0))
  from_graph col w =
      record {
        low = λ i m. w.low (get_or xs i 0) (l.only i (omega arith));
        high = λ i m. w.high (get_or xs i 0) (l.only i (omega arith));
        apart = λ i j m o e p. w.apart (get_or xs i 0) (get_or xs j 0) (l.only i (omega arith)) (l.only j (omega arith)) (sym (joins i j (omega arith) (omega arith)) ∙ e) p;
      }
