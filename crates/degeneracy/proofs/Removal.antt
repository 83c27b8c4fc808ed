-- Removing vertex after vertex: what holds once the list p is removed, and its step.
use Rattle.std.proofs.Common.{◌≡◌, ℕ, zero, suc, ◌+◌, ◌<◌, ◌≤◌, Bool, true, false, cond, ◌⊎◌, List, [], ◌∷◌, ◌++◌, length, get_or, take, set, sym, refl, ap, ◌∙◌, subst, inl, inr, arith, get_or-set_other, get_or-set_same}
use Rattle.std.proofs.lemmas.List.{length_push}
use Rattle.std.proofs.lemmas.Bool.{cases_Bool, cases_eq, cases_lt, both_ways}
use Rattle.std.proofs.lemmas.Bool.Decides.{nat_tests}
use Rattle.finite.specs.Finite.{count, has, Fewest}
use Rattle.finite.proofs.Counts.{count_same, count_less, count_empty, count_pos, push_each, push_before, push_here, fewest_same}
use Rattle.graph.specs.Graph.{Graph, Lawful, held, clash, inside, degree, vertices}
use Rattle.graph.proofs.Graphs.{held_below, inside_same, inside_held, inside_pos, inside_less_yes, inside_less_no}
use Rattle.degeneracy.specs.Order.{survivors, met, Next, IsOrder, IsPeak}
use Rattle.degeneracy.proofs.Orders.{survivors_from, survivors_none, survivors_self, survivors_other}

pub record Removed (g : Graph) (p : List ℕ) (most : ℕ) : Type 0 where
  pub each : (i : ℕ) → i < length p → Next g (survivors g (take i p)) (get_or p i 0)
  pub peak : IsPeak g p most
  pub rest : count (survivors g p) g.size + length p ≡ vertices g

pub removed_none : (g : Graph) → Removed g [] 0
unfolding vertices
removed_none g =
    record {
      each = λ i l. absurd (omega arith);
      peak = record { above = λ i l. absurd (omega arith); reached = inl refl };
      rest = let h = count_same (survivors g []) (held g) g.size (λ c l. survivors_none g c) in omega arith;
    }

pub peak_push : (g : Graph) (p : List ℕ) (x m n : ℕ) → IsPeak g p m → m ≤ n → inside g (survivors g p) x ≤ n → (n ≡ m) ⊎ (n ≡ inside g (survivors g p) x) → IsPeak g (p ++ x ∷ []) n
unfolding met
peak_push g p x m n k l h w =
    record {
      above = push_each (λ t y. inside g (survivors g t) y ≤ n) p x (λ i j. let a = k.above i j in omega arith) h;
      reached = elim w [
        | inl e ↦ elim k.reached [
          | inl z ↦ inl (e ∙ z)
          | inr r ↦ let b = push_before p x r.0 r.1 in let z = length_push p x in
              inr (r.0, omega (arith, r.1), simp (b.0, b.1) (r.2 ∙ sym e))
        ]
        | inr e ↦ let b = push_here p x in let z = length_push p x in
            inr (length p, omega arith, simp (b.0, b.1) (sym e))
      ];
    }

pub removed_more : (g : Graph) (p : List ℕ) (most n x : ℕ) → Removed g p most → Next g (survivors g p) x → most ≤ n → inside g (survivors g p) x ≤ n → (n ≡ most) ⊎ (n ≡ inside g (survivors g p) x) → Removed g (p ++ x ∷ []) n
removed_more g p most n x s nx l h w =
    record {
      each = push_each (λ t y. Next g (survivors g t) y) p x s.each nx;
      peak = peak_push g p x most n s.peak l h w;
      rest = let z = length_push p x in let q = count_less (survivors g p) (survivors g (p ++ x ∷ [])) x g.size nx.within nx.member (survivors_self g p x) (survivors_other g p x) in omega (arith, s.rest);
    }

-- room for one more
pub removed_room : (g : Graph) (p : List ℕ) (most x : ℕ) → Removed g p most → Next g (survivors g p) x → length p < vertices g
removed_room g p most x s nx =
    let h = count_pos (survivors g p) g.size x nx.within nx.member in omega (arith, s.rest)

-- the end: nothing lives
pub removed_all : (g : Graph) (p : List ℕ) (most : ℕ) → Removed g p most → ((c : ℕ) → c < g.size → survivors g p c ≡ false) → (length p ≡ vertices g) × IsOrder g p
removed_all g p most s gone = (
  omega (arith, s.rest, count_empty (survivors g p) g.size gone),
  record { each = s.each; all = λ c e. elim (cases_Bool (has p c)) [ inl y ↦ y | inr y ↦ absurd (both_ways (survivors g p c) (gone c (held_below g c e)) (survivors_from g p c e y)) ] },
)

-- a set has a member at which f is least, or none
pub fewest_some : (s : ℕ → Bool) (f : ℕ → ℕ) (n : ℕ) → ((c : ℕ) → c < n → s c ≡ false) ⊎ ((x : ℕ) × Fewest s f n x)
fewest_some s f zero = inl (λ c l. absurd (omega arith))
fewest_some s f (suc n) =
    elim (cases_Bool (s n)) [
      | inr out ↦ elim (fewest_some s f n) [
        | inl none ↦ inl (λ c l. elim (cases_eq c n) [ inl e ↦ ap s e ∙ out | inr e ↦ none c (omega arith) ])
        | inr w ↦ inr (
          w.0,
          record {
            within = omega (arith, w.1.within);
            member = w.1.member;
            least = λ c l y. elim (cases_eq c n) [ inl e ↦ absurd (both_ways (s c) (ap s e ∙ out) y) | inr e ↦ w.1.least c (omega arith) y ];
            lowest = w.1.lowest;
          },
        )
      ]
      | inl here ↦ elim (fewest_some s f n) [
        | inl none ↦ inr (
          n,
          record {
            within = omega arith;
            member = here;
            least = λ c l y. elim (cases_eq c n) [ inl e ↦ (let z = ap f e in omega arith) | inr e ↦ absurd (both_ways (s c) (none c (omega arith)) y) ];
            lowest = λ c l y. absurd (both_ways (s c) (none c l) y);
          },
        )
        | inr w ↦ elim (cases_lt (f n) (f w.0)) [
          | inl l ↦ inr (
            n,
            record {
              within = omega arith;
              member = here;
              least = λ c k y. elim (cases_eq c n) [ inl e ↦ (let z = ap f e in omega arith) | inr e ↦ (let z = w.1.least c (omega arith) y in omega arith) ];
              lowest = λ c k y. (let z = w.1.least c k y in omega arith);
            },
          )
          | inr l ↦ inr (
            w.0,
            record {
              within = omega (arith, w.1.within);
              member = w.1.member;
              least = λ c k y. elim (cases_eq c n) [ inl e ↦ (let z = ap f e in omega arith) | inr e ↦ w.1.least c (omega arith) y ];
              lowest = w.1.lowest;
            },
          )
        ]
      ]
    ]

order_from : (g : Graph) (k : ℕ) (p : List ℕ) (m : ℕ) → count (survivors g p) g.size ≤ k → Removed g p m → (q : List ℕ) × (n : ℕ) × IsOrder g q × IsPeak g q n
order_from g zero p m l r =
    (p, m, (removed_all g p m r (λ c i. elim (cases_Bool (survivors g p c)) [ inr y ↦ y | inl y ↦ absurd (let h = count_pos (survivors g p) g.size c i y in omega arith) ])).1, r.peak)
order_from g (suc k) p m l r =
    let s = survivors g p in
    elim (fewest_some s (inside g s) g.size) [
      | inl none ↦ (p, m, (removed_all g p m r none).1, r.peak)
      | inr w ↦ let x = w.0 in
          let less = count_less s (survivors g (p ++ x ∷ [])) x g.size w.1.within w.1.member (survivors_self g p x) (survivors_other g p x) in
          elim (cases_lt m (inside g s x)) [
            | inl h ↦ order_from g k (p ++ x ∷ []) (inside g s x) (omega arith) (removed_more g p m (inside g s x) x r w.1 (omega arith) (omega arith) (inr refl))
            | inr h ↦ order_from g k (p ++ x ∷ []) m (omega arith) (removed_more g p m m x r w.1 (omega arith) h (inl refl))
          ]
    ]

-- every graph has an order
pub some_order : (g : Graph) → (p : List ℕ) × (m : ℕ) × IsOrder g p × IsPeak g p m
some_order g = order_from g (count (survivors g []) g.size) [] 0 (omega arith) (removed_none g)

-- the same with the two rows of the loop: who lives, and how many living neighbours each has
pub record State (g : Graph) (p : List ℕ) (alive : List Bool) (left : List ℕ) (most : ℕ) : Type 0 where
  pub lives : (c : ℕ) → c < g.size → get_or alive c false ≡ survivors g p c
  pub lefts : (c : ℕ) → c < g.size → get_or left c 0 ≡ inside g (survivors g p) c
  pub removed : Removed g p most

pub state_none : (g : Graph) (alive : List Bool) (left : List ℕ) → ((c : ℕ) → c < g.size → get_or alive c false ≡ held g c) → ((c : ℕ) → c < g.size → get_or left c 0 ≡ degree g c) → State g [] alive left 0
state_none g alive left a d =
    record {
      lives = λ c l. a c l ∙ sym (survivors_none g c);
      lefts = λ c l. d c l ∙ sym (inside_held g c) ∙ inside_same g (held g) (survivors g []) c (λ b. sym (survivors_none g b));
      removed = removed_none g;
    }

-- the one that is found in the two rows is the next in the order
pub state_next : (g : Graph) (p : List ℕ) (alive : List Bool) (left : List ℕ) (most n x : ℕ) → State g p alive left most → n ≡ g.size → Fewest (λ c. get_or alive c false) (λ c. get_or left c 0) n x → Next g (survivors g p) x
state_next g p alive left most n x s e f =
    fewest_same (λ c. get_or alive c false) (survivors g p) (λ c. get_or left c 0) (inside g (survivors g p)) g.size x s.lives s.lefts (subst (λ m. Fewest (λ c. get_or alive c false) (λ c. get_or left c 0) m x) e f)

-- each neighbour of a member has one to take away
pub state_pos : (g : Graph) (p : List ℕ) (alive : List Bool) (left : List ℕ) (most x : ℕ) → Lawful g → State g p alive left most → Next g (survivors g p) x → (c : ℕ) → c < g.size → clash g x c ≡ true → 0 < get_or left c 0
state_pos g p alive left most x lw s nx c l e =
    omega (arith, s.lefts c l, inside_pos g (survivors g p) x c nx.member (lw.both c x ∙ e))

pub state_more : (g : Graph) (p : List ℕ) (alive : List Bool) (left after : List ℕ) (most n x : ℕ) → Lawful g → g.size ≤ length alive → State g p alive left most → Next g (survivors g p) x → ((c : ℕ) → c < g.size → get_or left c 0 ≡ get_or after c 0 + cond (clash g x c) 1 0) → most ≤ n → inside g (survivors g p) x ≤ n → (n ≡ most) ⊎ (n ≡ inside g (survivors g p) x) → State g (p ++ x ∷ []) (set alive x false) after n
state_more g p alive left after most n x lw fits s nx dec l h w =
    record {
      lives = λ c i. elim (cases_eq c x) [
        | inl e ↦ let lt : c < length alive = omega arith in
            simp (← e) (get_or-set_same alive c false false lt ∙ sym (survivors_self g p c))
        | inr e ↦ get_or-set_other alive x c false false e ∙ s.lives c i ∙ survivors_other g p x c e
      ];
      lefts = λ c i. let d = dec c i in let e = s.lefts c i in
          elim (cases_Bool (clash g x c)) [
            | inl y ↦ let q = inside_less_yes g (survivors g p) (survivors g (p ++ x ∷ [])) x c nx.member (survivors_self g p x) (survivors_other g p x) (lw.both c x ∙ y) in grind (arith, nat_tests)
            | inr y ↦ let q = inside_less_no g (survivors g p) (survivors g (p ++ x ∷ [])) x c (survivors_other g p x) (lw.both c x ∙ y) in grind (arith, nat_tests)
          ];
      removed = removed_more g p most n x s.removed nx l h w;
    }

pub state_all : (g : Graph) (p : List ℕ) (alive : List Bool) (left : List ℕ) (most : ℕ) → State g p alive left most → ((c : ℕ) → c < g.size → get_or alive c false ≡ false) → (length p ≡ vertices g) × IsOrder g p
state_all g p alive left most s none = removed_all g p most s.removed (λ c l. sym (s.lives c l) ∙ none c l)
