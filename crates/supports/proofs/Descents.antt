-- Peeling at ever higher thresholds until nothing is left.
use Rattle.std.proofs.Common.{◌≡◌, ℕ, ◌+◌, ◌-◌, ◌<◌, ◌≤◌, Bool, true, false, cond, ◌⊎◌, List, [], get_or, take, sym, refl, ap, ◌∙◌, subst, inl, inr, arith}
use Rattle.std.proofs.lemmas.Bool.{cases_Bool, cases_lt, both_ways, cond-false}
use Rattle.std.proofs.lemmas.Bool.Decides.{nat_tests}
use Rattle.finite.specs.Finite.{count, has}
use Rattle.finite.specs.Supports.{Falls, Within, Largest}
use Rattle.finite.proofs.Counts.{count_mono, count_less, has_none}
use Rattle.supports.specs.Peel.{Counted, PeeledIn, alive, but}
use Rattle.supports.specs.Levels.{Deepest, DeepestIn}
use Rattle.supports.proofs.Peels.{alive_below, alive_byte, alive_same, peels_member, largest_same, supported_less}
use Rattle.supports.proofs.Draining.{but_self, but_same}

-- x lives, and no living item has a lower count
pub record LowestCount (n : ℕ) (living counts : List ℕ) (low : ℕ) : Type 0 where
  pub item : ℕ
  pub member : alive n living item ≡ true
  pub count_is : get_or counts item 0 ≡ low
  pub least : (c : ℕ) → alive n living c ≡ true → low ≤ get_or counts c 0

pub level_none : (sup : (ℕ → Bool) → ℕ → ℕ) (all : ℕ → Bool) → Largest sup 0 all all
level_none sup all =
    record { supported = record { within = λ c y. y; each = λ c y. omega arith }; covers = λ u h. h.within }

-- what stays at t and has support r in itself stays at r
pub level_up : (sup : (ℕ → Bool) → ℕ → ℕ) (t r : ℕ) (all s : ℕ → Bool) → t ≤ r → Largest sup t all s → ((c : ℕ) → s c ≡ true → r ≤ sup s c) → Largest sup r all s
level_up sup t r all s l h f =
    record { supported = record { within = h.supported.within; each = f }; covers = λ u m. h.covers u (supported_less sup t r all u l m) }

-- peeling what was left by peeling
pub level_next : (sup : (ℕ → Bool) → ℕ → ℕ) (t : ℕ) (all s u : ℕ → Bool) → Largest sup t all s → Largest sup (t + 1) s u → Largest sup (t + 1) all u
level_next sup t all s u a b =
    record {
      supported = record { within = λ c y. a.supported.within c (b.supported.within c y); each = b.supported.each };
      covers = λ v h. b.covers v (record { within = a.covers v (supported_less sup t (t + 1) all v (omega arith) h); each = h.each });
    }

-- the level before, which the items last taken out give back
pub record LevelBefore (sup : (ℕ → Bool) → ℕ → ℕ) (n : ℕ) (all : ℕ → Bool) (living out : List ℕ) (next : ℕ) : Type 0 where
  pub before : List ℕ
  pub positive : 0 < next
  pub level : Largest sup (next - 1) all (alive n before)
  pub back : (c : ℕ) → get_or before c 0 ≡ cond (has out c) 1 (get_or living c 0)
  pub item : ℕ
  pub member : alive n before item ≡ true

-- below `next` nothing more goes; `out` was taken out last
pub record Descent (sup : (ℕ → Bool) → ℕ → ℕ) (n : ℕ) (first living counts out : List ℕ) (next : ℕ) : Type 0 where
  pub counted : Counted sup n living counts
  pub level : Largest sup next (alive n first) (alive n living)
  pub lower : (c : ℕ) → get_or living c 0 ≤ get_or first c 0
  pub rest : (c : ℕ) → n ≤ c → get_or living c 0 ≡ get_or first c 0
  pub last : ((next ≡ 0) × ((c : ℕ) → alive n living c ≡ alive n first c) × (out ≡ [])) ⊎ LevelBefore sup n (alive n first) living out next

pub descent_none : (sup : (ℕ → Bool) → ℕ → ℕ) (n : ℕ) (first counts : List ℕ) → Counted sup n first counts → Descent sup n first first counts [] 0
descent_none sup n first counts co =
    record { counted = co; level = level_none sup (alive n first); lower = λ c. omega arith; rest = λ c l. refl; last = inl (refl, (λ c. refl), refl) }

module _ (sup : (ℕ → Bool) → ℕ → ℕ) (n k : ℕ) (living living' taken taken' : List ℕ) (len : ℕ) (p : PeeledIn sup n k living living' taken taken' len) where
  pub peeled_lower : (c : ℕ) → get_or living' c 0 ≤ get_or living c 0
  peeled_lower c = let h = p.cleared c in grind (arith, nat_tests)

  pub peeled_was : (c : ℕ) → has (take len taken') c ≡ true → alive n living c ≡ true
  peeled_was c y = peels_member sup k (alive n living) (take len taken') c p.peels y

  pub peeled_rest : (c : ℕ) → n ≤ c → get_or living' c 0 ≡ get_or living c 0
  peeled_rest c l =
      p.cleared c ∙ elim (cases_Bool (has (take len taken') c)) [
        | inl y ↦ absurd (omega (arith, alive_below n living c (peeled_was c y)))
        | inr y ↦ cond-false (has (take len taken') c) 0 (get_or living c 0) y
      ]

  pub peeled_back : (c : ℕ) → get_or living c 0 ≡ cond (has (take len taken') c) 1 (get_or living' c 0)
  peeled_back c =
      let h = p.cleared c in
      elim (cases_Bool (has (take len taken') c)) [
        | inl y ↦ let b = alive_byte n living c (peeled_was c y) in grind (arith, nat_tests)
        | inr y ↦ grind (arith, nat_tests)
      ]

but_in : (s t : ℕ → Bool) (x c : ℕ) → Within t s → t x ≡ false → t c ≡ true → but s x c ≡ true
but_in s t x c w g y = but_same s x c (λ e. both_ways (t x) g (ap t (sym e) ∙ y)) ∙ w c y

-- one more level
module _ (sup : (ℕ → Bool) → ℕ → ℕ) (n : ℕ) (first living counts out : List ℕ) (next low : ℕ) (f : Falls sup) (d : Descent sup n first living counts out next) (l : LowestCount n living counts low) (up : next ≤ low) (living' counts' taken taken' : List ℕ) (len : ℕ) (p : PeeledIn sup n (low + 1) living living' taken taken' len) (co : Counted sup n living' counts') where
  here : Largest sup low (alive n first) (alive n living)
  here = level_up sup next low (alive n first) (alive n living) up d.level (λ c y. omega (arith, d.counted c y, l.least c y))

  pub descent_more : Descent sup n first living' counts' (take len taken') (low + 1)
  descent_more =
      record {
        counted = co;
        level = level_next sup low (alive n first) (alive n living) (alive n living') here p.largest;
        lower = λ c. omega (arith, d.lower c, peeled_lower sup n (low + 1) living living' taken taken' len p c);
        rest = λ c h. peeled_rest sup n (low + 1) living living' taken taken' len p c h ∙ d.rest c h;
        last = inr (record {
          before = living;
          positive = omega arith;
          level = subst (λ v. Largest sup v (alive n first) (alive n living)) (let e : low ≡ low + 1 - 1 = omega arith in e) here;
          back = peeled_back sup n (low + 1) living living' taken taken' len p;
          item = l.item;
          member = l.member;
        });
      }

  -- the item with the lowest count is gone
  pub descent_less : count (alive n living') n < count (alive n living) n
  descent_less =
      let x = l.item in
      let gone : alive n living' x ≡ false = elim (cases_Bool (alive n living' x)) [
        | inr y ↦ y
        | inl y ↦ absurd (omega (arith, p.largest.supported.each x y, f (alive n living') (alive n living) x p.largest.supported.within, d.counted x l.member, l.count_is))
      ] in
      let one = count_less (alive n living) (but (alive n living) x) x n (alive_below n living x l.member) l.member (but_self (alive n living) x) (λ c ne. sym (but_same (alive n living) x c ne)) in
      let two = count_mono (alive n living') (but (alive n living) x) n (λ c h y. but_in (alive n living) (alive n living') x c p.largest.supported.within gone y) in
      omega arith

-- nothing lives: the items last taken out are put back
pub descent_all : (sup : (ℕ → Bool) → ℕ → ℕ) (n : ℕ) (first living counts out after : List ℕ) (next : ℕ) → Falls sup → Descent sup n first living counts out next → ((c : ℕ) → alive n living c ≡ false) → ((c : ℕ) → get_or after c 0 ≡ cond (has out c) 1 (get_or living c 0)) → Deepest sup (alive n first) (alive n after) (next - 1)
descent_all sup n first living counts out after next f d none back =
    elim d.last [
      | inl z ↦
          let same : (c : ℕ) → get_or after c 0 ≡ get_or living c 0 = λ c. (back c ∙ cond-false (has out c) 1 (get_or living c 0) (ap (λ p. has p c) z.2 ∙ has_none c)) in
          let e = alive_same n after living (λ c h. same c) in
          record {
            level = subst (λ v. Largest sup v (alive n first) (alive n after)) (let q : next ≡ next - 1 = omega (arith, z.0) in q) (largest_same sup f next (alive n first) (alive n living) (alive n after) (λ c. sym (e c)) d.level);
            most = λ t u h c y. absurd (both_ways (alive n living c) (none c) (z.1 c ∙ h.within c y));
            some = λ c y. absurd (both_ways (alive n living c) (none c) (z.1 c ∙ y));
          }
      | inr w ↦
          let e = alive_same n after w.before (λ c h. back c ∙ sym (w.back c)) in
          record {
            level = largest_same sup f (next - 1) (alive n first) (alive n w.before) (alive n after) (λ c. sym (e c)) w.level;
            most = λ t u h c y. elim (cases_lt (next - 1) t) [
              | inr l ↦ l
              | inl l ↦ absurd (both_ways (alive n living c) (none c) (d.level.covers u (supported_less sup next t (alive n first) u (omega (arith, w.positive)) h) c y))
            ];
            some = λ c y. (w.item, e w.item ∙ w.member);
          }
    ]

-- and what that leaves in the bytes
pub descent_in : (sup : (ℕ → Bool) → ℕ → ℕ) (n : ℕ) (first living counts out after : List ℕ) (next : ℕ) → Falls sup → Descent sup n first living counts out next → ((c : ℕ) → alive n living c ≡ false) → ((c : ℕ) → get_or after c 0 ≡ cond (has out c) 1 (get_or living c 0)) → ((c : ℕ) → has out c ≡ true → alive n first c ≡ true) → DeepestIn sup n first after (next - 1)
descent_in sup n first living counts out after next f d none back was =
    record {
      deepest = descent_all sup n first living counts out after next f d none back;
      lower = λ c. elim (cases_Bool (has out c)) [
        | inl y ↦ let b = alive_byte n first c (was c y) in let h = back c in grind (arith, nat_tests)
        | inr y ↦ let l = d.lower c in let h = back c ∙ cond-false (has out c) 1 (get_or living c 0) y in omega arith
      ];
      rest = λ c l. elim (cases_Bool (has out c)) [
        | inl y ↦ absurd (omega (arith, alive_below n first c (was c y)))
        | inr y ↦ back c ∙ cond-false (has out c) 1 (get_or living c 0) y ∙ d.rest c l
      ];
    }

-- every count of a living item is `next` or more
pub descent_up : (sup : (ℕ → Bool) → ℕ → ℕ) (n : ℕ) (first living counts out : List ℕ) (next low : ℕ) → Descent sup n first living counts out next → LowestCount n living counts low → next ≤ low
descent_up sup n first living counts out next low d l =
    omega (arith, d.level.supported.each l.item l.member, d.counted l.item l.member, l.count_is)

-- what is taken out lived at first
pub descent_was : (sup : (ℕ → Bool) → ℕ → ℕ) (n k : ℕ) (first living living' counts out taken taken' : List ℕ) (next len : ℕ) → Descent sup n first living counts out next → PeeledIn sup n k living living' taken taken' len → (c : ℕ) → has (take len taken') c ≡ true → alive n first c ≡ true
descent_was sup n k first living living' counts out taken taken' next len d p c y =
    d.level.supported.within c (peeled_was sup n k living living' taken taken' len p c y)
