-- The living neighbours of a vertex, taken by rank: those of rank below j.
use Rattle.std.proofs.Common.{◌≡◌, ℕ, ◌+◌, ◌<◌, ◌≤◌, Bool, true, false, ◌&&◌, ◌||◌, eqb, ltb, List, length, take, sym, refl, ap, ◌∙◌, inl, inr, add-zero, arith}
use Rattle.std.proofs.lemmas.List.{length-take-le}
use Rattle.std.proofs.lemmas.Bool.{cases_Bool, cases_eq, cases_lt, both_ways, and_parts, and_from, and_left, and_right, lt-ltb, le-ltb, eq-eqb, ne_eqb, cond-true, cond-false}
use Rattle.std.proofs.lemmas.Bool.Decides.{nat_tests}
use Rattle.finite.specs.Finite.{count, has}
use Rattle.finite.proofs.Counts.{has_none}
use Rattle.finite.proofs.Members.{count_rise, rank_one}
use Rattle.graph.specs.Graph.{Graph, Lawful, clash, inside, degree}
use Rattle.graph.proofs.Graphs.{held_below, clash_right, inside_less_yes, inside_less_no}
use Rattle.supports.specs.Peel.{Losers, but}
use Rattle.supports.proofs.Draining.{but_self, but_same}
use Rattle.supports.proofs.Queues.{Queue}

unfoldable pub near : Graph → (ℕ → Bool) → ℕ → ℕ → ℕ → Bool
near g s x j c = clash g x c && (ltb (count (clash g x) c) j && s c)

-- b is neighbour j
abbrev pub AtRank : Graph → ℕ → ℕ → ℕ → Type 0
AtRank g x j b = (b < g.size) × (clash g x b ≡ true) × (count (clash g x) b ≡ j)

pub near_none : (g : Graph) (s : ℕ → Bool) (x c : ℕ) → near g s x 0 c ≡ false
unfolding near
near_none g s x c = let h = le-ltb (count (clash g x) c) 0 (omega arith) in grind (arith, nat_tests)

near_step : (g : Graph) (s : ℕ → Bool) (x j b c : ℕ) → AtRank g x j b → (c ≡ b → ⊥) → near g s x (j + 1) c ≡ near g s x j c
unfolding near
near_step g s x j b c r ne =
    elim (cases_Bool (clash g x c)) [
      | inr y ↦ and_left (clash g x c) (ltb (count (clash g x) c) (j + 1) && s c) y ∙ sym (and_left (clash g x c) (ltb (count (clash g x) c) j && s c) y)
      | inl y ↦ let d : count (clash g x) c ≡ j → ⊥ = λ e. ne (rank_one (clash g x) c b y r.1 (e ∙ sym r.2)) in
          let e : ltb (count (clash g x) c) (j + 1) ≡ ltb (count (clash g x) c) j = elim (cases_lt (count (clash g x) c) j) [
            | inl l ↦ lt-ltb (count (clash g x) c) (j + 1) (omega arith) ∙ sym (lt-ltb (count (clash g x) c) j l)
            | inr l ↦ le-ltb (count (clash g x) c) (j + 1) (omega arith) ∙ sym (le-ltb (count (clash g x) c) j l)
          ] in
          ap (λ (v : Bool). clash g x c && (v && s c)) e
    ]

near_here : (g : Graph) (s : ℕ → Bool) (x j b : ℕ) → AtRank g x j b → near g s x (j + 1) b ≡ s b
unfolding near
near_here g s x j b r =
    and_true (clash g x b) (ltb (count (clash g x) b) (j + 1) && s b) r.1 ∙ and_true (ltb (count (clash g x) b) (j + 1)) (s b) (lt-ltb (count (clash g x) b) (j + 1) (omega (arith, r.2)))
  where
    and_true : (p q : Bool) → p ≡ true → (p && q) ≡ q
    and_true p q e = rw e refl

pub near_out : (g : Graph) (s : ℕ → Bool) (x j b : ℕ) → AtRank g x j b → near g s x j b ≡ false
unfolding near
near_out g s x j b r =
    and_right (clash g x b) (ltb (count (clash g x) b) j && s b) (and_left (ltb (count (clash g x) b) j) (s b) (le-ltb (count (clash g x) b) j (omega (arith, r.2))))

pub near_yes : (g : Graph) (s : ℕ → Bool) (x j b : ℕ) → AtRank g x j b → s b ≡ true → (c : ℕ) → near g s x (j + 1) c ≡ (near g s x j c || eqb b c)
near_yes g s x j b r y c =
    elim (cases_eq c b) [
      | inl e ↦ let q = eq-eqb b c (sym e) in let h = ap (near g s x (j + 1)) e ∙ near_here g s x j b r ∙ y in grind (arith, nat_tests)
      | inr e ↦ let q = ne_eqb b c (λ i. e (sym i)) in let h = near_step g s x j b c r e in grind (arith, nat_tests)
    ]

pub near_no : (g : Graph) (s : ℕ → Bool) (x j b : ℕ) → AtRank g x j b → s b ≡ false → (c : ℕ) → near g s x (j + 1) c ≡ near g s x j c
near_no g s x j b r y c =
    elim (cases_eq c b) [
      | inl e ↦ ap (near g s x (j + 1)) e ∙ near_here g s x j b r ∙ y ∙ sym (near_out g s x j b r) ∙ ap (near g s x j) (sym e)
      | inr e ↦ near_step g s x j b c r e
    ]

pub near_all : (g : Graph) (s : ℕ → Bool) (x j : ℕ) → j ≡ degree g x → (c : ℕ) → near g s x j c ≡ (s c && clash g x c)
unfolding near degree
near_all g s x j e c =
    elim (cases_Bool (clash g x c)) [
      | inr y ↦ and_left (clash g x c) (ltb (count (clash g x) c) j && s c) y ∙ sym (and_right (s c) (clash g x c) y)
      | inl y ↦ let l = lt-ltb (count (clash g x) c) j (omega (arith, count_rise (clash g x) c g.size (held_below g c (clash_right g x c y)) y)) in grind (arith, nat_tests)
    ]

-- the living neighbours of x lose a support when x goes
pub near_losers : (g : Graph) → Lawful g → (s : ℕ → Bool) (x j : ℕ) (old out : List ℕ) (len : ℕ) → s x ≡ true → j ≡ degree g x → Queue g.size (near g s x j) old out 0 len → len ≤ length out → Losers (inside g) g.size s x (take len out)
near_losers g lw s x j old out len y e q fits =
    let in-out : (c : ℕ) → has (take len out) c ≡ (s c && clash g x c) = λ c. (let h = q.queue c in let z = has_none c in let a = near_all g s x j e c in grind (arith, nat_tests)) in
    record {
      many = q.many ∙ sym (length-take-le len out fits);
      member = λ c h. (and_parts (s c) (clash g x c) (sym (in-out c) ∙ h)).0;
      other = λ c h i. both_ways (clash g x c) (ap (clash g x) i ∙ lw.never x) (and_parts (s c) (clash g x c) (sym (in-out c) ∙ h)).1;
      less = λ c h ne. elim (cases_Bool (clash g x c)) [
        | inl z ↦ inside_less_yes g s (but s x) x c y (but_self s x) (λ b d. sym (but_same s x b d)) (lw.both c x ∙ z) ∙ ap (λ (v : ℕ). inside g (but s x) c + v) (sym (cond-true {A = ℕ} (has (take len out) c) 1 0 (in-out c ∙ and_from (s c) (clash g x c) h z)))
        | inr z ↦ inside_less_no g s (but s x) x c (λ b d. sym (but_same s x b d)) (lw.both c x ∙ z) ∙ sym (ap (λ (v : ℕ). inside g (but s x) c + v) (cond-false {A = ℕ} (has (take len out) c) 1 0 (in-out c ∙ and_right (s c) (clash g x c) z)) ∙ add-zero (inside g (but s x) c))
      ];
    }
