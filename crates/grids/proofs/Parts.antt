-- A clique in two parts: its sizes in them qualify.
use Rattle.std.proofs.Common.{◌≡◌, ℕ, ◌<◌, ◌≤◌, Bool, true, not, ◌&&◌, leb, List, length, get_or, arith}
use Rattle.std.proofs.lemmas.Bool.{le-leb, and_parts, and_from}
use Rattle.finite.specs.Finite.{count}
use Rattle.finite.specs.Masks.{bit}
use Rattle.finite.proofs.Counts.{count_le}
use Rattle.finite.proofs.Splits.{count_split, any_from}
use Rattle.grids.specs.Grid.{linked, Even, Loopless}
use Rattle.grids.specs.Classes.{classes}
use Rattle.grids.specs.Largest.{reaches, reaching, IsLargest, largest}
use Rattle.grids.proofs.Classes.{classes_cover, classes_few}
use Rattle.grids.proofs.Largest.{largest_ge, largest_is}

module _ (rows : List ℕ) (even : Even rows) (loopless : Loopless rows) (n : ℕ) (small : n ≤ 64) where
  -- the members of a clique lie in different classes, so as many classes contain one
  pub clique_reaching : (m : ℕ) (K : ℕ → Bool) → ((i : ℕ) → K i ≡ true → i < n) → ((i : ℕ) → K i ≡ true → bit m i ≡ true) → ((i j : ℕ) → K i ≡ true → K j ≡ true → (i ≡ j → ⊥) → linked rows i j ≡ true) → (degree : ℕ → ℕ) (s : ℕ) → ((i : ℕ) → K i ≡ true → s ≤ degree i) → count K 64 ≤ reaching degree (classes rows m n) s
  clique_reaching m K below inside links degree s high =
      classes_cover rows even loopless m n K below inside links (reaches degree s) (λ k i l x b. any_from (λ i. bit (get_or (classes rows m n) k 0) i && leb s (degree i)) 64 i (let h = below i x in omega arith) (and_from (bit (get_or (classes rows m n) k 0) i) (leb s (degree i)) b (le-leb s (degree i) (high i x))))

  -- u holds the members that pass the test, w the others, and each member has the other part's size or more
  pub parts_sound : (u w : ℕ) (K t : ℕ → Bool) → ((i : ℕ) → K i ≡ true → i < n) → ((i : ℕ) → (K i && t i) ≡ true → bit u i ≡ true) → ((i : ℕ) → (K i && not (t i)) ≡ true → bit w i ≡ true) → ((i j : ℕ) → K i ≡ true → K j ≡ true → (i ≡ j → ⊥) → linked rows i j ≡ true) → (du dw : ℕ → ℕ) → ((i : ℕ) → (K i && t i) ≡ true → count (λ j. K j && not (t j)) 64 ≤ du i) → ((i : ℕ) → (K i && not (t i)) ≡ true → count (λ j. K j && t j) 64 ≤ dw i) → count K 64 ≤ largest (reaching du (classes rows u n)) (reaching dw (classes rows w n))
  parts_sound u w K t below inu inw links du dw hu hw =
      let r = count (λ i. K i && t i) 64 in
      let s = count (λ i. K i && not (t i)) 64 in
      let a : r ≤ reaching du (classes rows u n) s = clique_reaching u (λ i. K i && t i) (λ i x. below i (and_parts _ _ x).0) inu (λ i j x y. links i j (and_parts _ _ x).0 (and_parts _ _ y).0) du s hu in
      let b : s ≤ reaching dw (classes rows w n) r = clique_reaching w (λ i. K i && not (t i)) (λ i x. below i (and_parts _ _ x).0) inw (λ i j x y. links i j (and_parts _ _ x).0 (and_parts _ _ y).0) dw r hw in
      let c = count_split K t 64 in
      let d = count_le (λ i. K i && t i) 64 in
      let e = count_le (λ i. K i && not (t i)) 64 in
      let g = largest_ge (reaching du (classes rows u n)) (reaching dw (classes rows w n)) r s (omega arith) (omega arith) (and_from (leb r (reaching du (classes rows u n) s)) (leb s (reaching dw (classes rows w n) r)) (le-leb r _ a) (le-leb s _ b)) in
      omega arith

-- no pair that qualifies is left out
pub parts_largest : (rows : List ℕ) (n u w : ℕ) (du dw : ℕ → ℕ) → n ≤ 64 → IsLargest (reaching du (classes rows u n)) (reaching dw (classes rows w n)) (largest (reaching du (classes rows u n)) (reaching dw (classes rows w n)))
parts_largest rows n u w du dw l =
    largest_is (reaching du (classes rows u n)) (reaching dw (classes rows w n)) (few u du) (few w dw)
  where
    few : (m : ℕ) (degree : ℕ → ℕ) (s : ℕ) → reaching degree (classes rows m n) s ≤ 64
    few m degree s =
        let a = count_le (λ k. reaches degree s (get_or (classes rows m n) k 0)) (length (classes rows m n)) in
        let b = classes_few rows m n in
        omega arith
