-- The colours of the neighbours are marked one by one, and then the lowest free one is found.
use Rattle.std.proofs.Common.{◌≡◌, ℕ, ◌+◌, ◌-◌, ◌<◌, ◌≤◌, Bool, true, false, not, ◌&&◌, eqb, List, length, get_or, set, replicate, sym, ap, ◌∙◌, inl, inr, arith, get_or-set_other, get_or-set_same}
use Rattle.std.proofs.lemmas.List.{length-set, length-replicate, get_or-replicate}
use Rattle.std.proofs.lemmas.Bool.{cases_eq, and_from, both_ways, ne_eqb, not_from_false}
use Rattle.finite.specs.Finite.{count}
use Rattle.finite.proofs.Counts.{count_onto}
use Rattle.finite.proofs.Members.{count_rise, rank_one}
use Rattle.graph.specs.Graph.{Graph, held, clash, degree}
use Rattle.graph.proofs.Graphs.{held_below, clash_right}
use Rattle.degeneracy.specs.Greedy.{Lowest, coloured_near}
use Rattle.first_fit.specs.Marks.{Marked}

-- the colours of the first i neighbours of x are marked
pub record Marks (g : Graph) (x : ℕ) (paint : List ℕ) (n i : ℕ) (taken : List Bool) : Type 0 where
  pub long : length taken ≡ n
  pub worn : (k : ℕ) → k < n → get_or taken k false ≡ true → (b : ℕ) × (clash g x b ≡ true) × (get_or paint b 0 ≡ k)
  pub done : (b : ℕ) → clash g x b ≡ true → count (clash g x) b < i → get_or paint b 0 < n → get_or taken (get_or paint b 0) false ≡ true

pub marks_none : (g : Graph) (x : ℕ) (paint : List ℕ) (n : ℕ) → Marks g x paint n 0 (replicate n false)
marks_none g x paint n =
    record {
      long = length-replicate n false;
      worn = λ k l e. absurd (both_ways (get_or (replicate n false) k false) (get_or-replicate n k false false l) e);
      done = λ b e l. absurd (omega arith);
    }

pub marks_yes : (g : Graph) (x : ℕ) (paint : List ℕ) (n i j b d : ℕ) (t : Bool) (taken : List Bool) → Marks g x paint n i taken → (b < g.size) × (clash g x b ≡ true) × (count (clash g x) b ≡ i) → j ≡ i + 1 → d ≡ get_or paint b 0 → d < n → t ≡ true → Marks g x paint n j (set taken d t)
marks_yes g x paint n i j b d t taken s r up is small sure =
    let lt : d < length taken = omega (arith, s.long) in
    let same = get_or-set_same taken d t false lt ∙ sure in
    record {
      long = simp length-set s.long;
      worn = λ k l e. elim (cases_eq k d) [
        | inl q ↦ (b, r.1, sym is ∙ sym q)
        | inr ne ↦ s.worn k l (sym (get_or-set_other taken d k t false ne) ∙ e)
      ];
      done = λ c e l m. elim (cases_eq (get_or paint c 0) d) [
        | inl q ↦ ap (λ v. get_or (set taken d t) v false) q ∙ same
        | inr ne ↦ let other : count (clash g x) c ≡ i → ⊥ = λ z. ne (ap (λ v. get_or paint v 0) (rank_one (clash g x) c b e r.1 (z ∙ sym r.2)) ∙ sym is) in
            get_or-set_other taken d (get_or paint c 0) t false ne ∙ s.done c e (omega arith) m
      ];
    }

-- a colour that is out of reach
pub marks_no : (g : Graph) (x : ℕ) (paint : List ℕ) (n i j b : ℕ) (taken : List Bool) → Marks g x paint n i taken → (b < g.size) × (clash g x b ≡ true) × (count (clash g x) b ≡ i) → j ≡ i + 1 → n ≤ get_or paint b 0 → Marks g x paint n j taken
marks_no g x paint n i j b taken s r up big =
    record {
      long = s.long;
      worn = s.worn;
      done = λ c e l m. s.done c e (let other : count (clash g x) c ≡ i → ⊥ = λ z. (let q = ap (λ v. get_or paint v 0) (rank_one (clash g x) c b e r.1 (z ∙ sym r.2)) in omega arith) in omega arith) m;
    }

pub marks_all : (g : Graph) (x : ℕ) (paint : List ℕ) (n i : ℕ) (taken : List Bool) → Marks g x paint n i taken → i ≡ degree g x → Marked g x paint n taken
unfolding degree
marks_all g x paint n i taken s e =
    record {
      long = s.long;
      worn = s.worn;
      done = λ b y. s.done b y (omega (arith, count_rise (clash g x) b g.size (held_below g b (clash_right g x b y)) y));
    }

-- so few coloured neighbours do not take all colours from 1
pub marked_end : (g : Graph) (x : ℕ) (paint : List ℕ) (n : ℕ) (taken : List Bool) (k : ℕ) → Marked g x paint n taken → coloured_near g paint x + 2 ≤ n → k ≤ n → ((j : ℕ) → 1 ≤ j → j < k → get_or taken j false ≡ true) → k < n
unfolding coloured_near
marked_end g x paint n taken k s few l f =
    let h = count_onto (λ b. clash g x b && not (eqb (get_or paint b 0) 0)) (λ b. get_or paint b 0 - 1) g.size (k - 1) (λ j m.
    let w = s.worn (j + 1) (omega arith) (f (j + 1) (omega arith) (omega arith)) in
    (w.0, held_below g w.0 (clash_right g x w.0 w.1), and_from (clash g x w.0) (not (eqb (get_or paint w.0 0) 0)) w.1 (not_from_false (eqb (get_or paint w.0 0) 0) (ne_eqb (get_or paint w.0 0) 0 (λ z. omega (arith, w.2)))), omega (arith, w.2))) in
    omega arith

pub marked_lowest : (g : Graph) (x : ℕ) (paint : List ℕ) (n : ℕ) (taken : List Bool) (k : ℕ) → Marked g x paint n taken → 1 ≤ k → k < n → ((j : ℕ) → 1 ≤ j → j < k → get_or taken j false ≡ true) → get_or taken k false ≡ false → Lowest g (held g) (λ c. get_or paint c 0) x k
marked_lowest g x paint n taken k s one l f e =
    record {
      from_one = one;
      free = λ b m y z. both_ways (get_or taken k false) e (ap (λ v. get_or taken v false) (sym z) ∙ s.done b y (omega arith));
      below = λ j m h. let w = s.worn j (omega arith) (f j m h) in (w.0, clash_right g x w.0 w.1, w.1, w.2);
    }
