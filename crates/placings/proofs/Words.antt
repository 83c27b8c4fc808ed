-- The colours of the places in a row, gathered in masks.
use Rattle.std.proofs.Common.{◌≡◌, ℕ, ◌+◌, ◌-◌, ◌*◌, ◌/◌, ◌%◌, ◌<◌, ◌≤◌, min, Bool, true, false, not, ◌&&◌, ◌||◌, eqb, ltb, ◌⊎◌, List, [], get_or, sym, ap, ◌∙◌, inl, inr, arith}
use lib.Bits.{bit_or}
use Rattle.std.proofs.lemmas.Bool.{cases_eq, cases_lt, both_ways, and_parts, and_from, or_cases, or_left, ltb-true, lt-ltb, eqb-true, eq-eqb, not-true}
use Rattle.std.proofs.lemmas.Bool.Decides.{nat_tests}
use Rattle.finite.specs.Masks.{bit}
use Rattle.finite.proofs.Masks.{bit_none, bit_zero, bit-bit_or}
use Rattle.placings.specs.Rows.{linked}
use Rattle.placings.specs.Colours.{at}
use Rattle.placings.specs.Tries.{Worn, Near, Open}

-- the members that are not in `rest` are done
pub record Gathered (members : ℕ) (table : List ℕ) (from base rest m : ℕ) : Type 0 where
  pub part : (v : ℕ) → bit rest v ≡ true → bit members v ≡ true
  pub some : (j : ℕ) → bit m j ≡ true → (v : ℕ) × (bit members v ≡ true) × (at table (from + v) ≡ base + j + 1)
  pub all : (v j : ℕ) → bit members v ≡ true → bit rest v ≡ false → j < 64 → at table (from + v) ≡ base + j + 1 → bit m j ≡ true

pub gathered_none : (members : ℕ) (table : List ℕ) (from base : ℕ) → Gathered members table from base members 0
gathered_none members table from base =
    record {
      part = λ v y. y;
      some = λ j y. absurd (both_ways (bit 0 j) (bit_zero j) y);
      all = λ v j y n. absurd (both_ways (bit members v) n y);
    }

module _ (members : ℕ) (table : List ℕ) (from base rest left v m : ℕ) (s : Gathered members table from base rest m) (here : bit rest v ≡ true) (is : (j : ℕ) → bit left j ≡ (bit rest j && not (eqb j v))) where
  still : (u : ℕ) → bit left u ≡ true → bit rest u ≡ true
  still u y = (and_parts (bit rest u) (not (eqb u v)) (sym (is u) ∙ y)).0

  other : (u : ℕ) → (u ≡ v → ⊥) → bit left u ≡ false → bit rest u ≡ false
  other u ne y = let e = is u in grind (arith, nat_tests)

  pub gathered_yes : (new : ℕ) → base < at table (from + v) → at table (from + v) ≤ base + 64 → ((j : ℕ) → bit new j ≡ (bit m j || eqb j (at table (from + v) - base - 1))) → Gathered members table from base left new
  gathered_yes new lo hi with-is =
      let d = at table (from + v) - base - 1 in
      record {
        part = λ u y. s.part u (still u y);
        some = λ j y. elim (or_cases (bit m j) (eqb j d) (sym (with-is j) ∙ y)) [
          | inl h ↦ s.some j h
          | inr h ↦ (v, s.part v here, (let e = eqb-true j d h in omega arith))
        ];
        all = λ u j y n l e. elim (cases_eq u v) [
          | inl q ↦ let z = ap (λ i. at table (from + i)) q in
              let w = eq-eqb j d (omega arith) in
              with-is j ∙ grind (arith, nat_tests)
          | inr ne ↦ let w = s.all u j y (other u ne n) l e in with-is j ∙ or_left (bit m j) (eqb j d) w
        ];
      }

  pub gathered_no : (at table (from + v) ≤ base) ⊎ (base + 64 < at table (from + v)) → Gathered members table from base left m
  gathered_no far =
      record {
        part = λ u y. s.part u (still u y);
        some = s.some;
        all = λ u j y n l e. elim (cases_eq u v) [
          | inl q ↦ absurd (let z = ap (λ i. at table (from + i)) q in elim far [ inl a ↦ omega arith | inr a ↦ omega arith ])
          | inr ne ↦ s.all u j y (other u ne n) l e
        ];
      }

pub gathered_all : (members : ℕ) (table : List ℕ) (from base rest m : ℕ) → Gathered members table from base rest m → rest ≡ 0 → Worn members table from base m
gathered_all members table from base rest m s z =
    record { some = s.some; all = λ v j y l e. s.all v j y (bit_none rest v z) l e }

-- row c word by word
pub near_none : (n : ℕ) (E : ℕ → ℕ → Bool) (table : List ℕ) (c base : ℕ) → Near n E table c 0 base 0
near_none n E table c base =
    record { some = λ j y. absurd (both_ways (bit 0 j) (bit_zero j) y); all = λ v j l m. absurd (omega arith) }

pub near_more : (n : ℕ) (rows : List (List ℕ)) (table : List ℕ) (c w base front m worn : ℕ) → Near n (linked rows) table c (64 * w) base m → ((j : ℕ) → bit front j ≡ (bit (get_or (get_or rows c []) w 0) j && ltb j (min (n - 64 * w) 64))) → Worn front table (64 * w) base worn → Near n (linked rows) table c (64 * (w + 1)) base (bit_or m worn)
near_more n rows table c w base front m worn s is g =
    record {
      some = λ j y. elim (or_cases (bit m j) (bit worn j) (sym (bit-bit_or m worn j) ∙ y)) [
        | inl h ↦ s.some j h
        | inr h ↦ let u = g.some j h in
            let p = and_parts (bit (get_or (get_or rows c []) w 0) u.0) (ltb u.0 (min (n - 64 * w) 64)) (sym (is u.0) ∙ u.1) in
            let l = ltb-true u.0 (min (n - 64 * w) 64) p.1 in
            let a : (64 * w + u.0) / 64 ≡ w = omega arith in
            let b : (64 * w + u.0) % 64 ≡ u.0 = omega arith in
            (64 * w + u.0, omega arith, rw (a, b) p.0, u.2)
      ];
      all = λ v j l e y h q. elim (cases_lt v (64 * w)) [
        | inl a ↦ bit-bit_or m worn j ∙ or_left (bit m j) (bit worn j) (s.all v j l a y h q)
        | inr a ↦ let u : ℕ = v - 64 * w in
            let i : v / 64 ≡ w = omega arith in
            let o : v % 64 ≡ u = omega arith in
            let r : 64 * w + u ≡ v = omega arith in
            let b : bit front u ≡ true = is u ∙ and_from (bit (get_or (get_or rows c []) w 0) u) (ltb u (min (n - 64 * w) 64)) (rw (i, o) at y) (lt-ltb u (min (n - 64 * w) 64) (omega arith)) in
            let z = g.all u j b h (ap (at table) r ∙ q) in
            bit-bit_or m worn j ∙ grind (arith, nat_tests)
      ];
    }

pub near_past : (n : ℕ) (E : ℕ → ℕ → Bool) (table : List ℕ) (c w base m : ℕ) → Near n E table c (64 * w) base m → n ≤ 64 * w → Near n E table c (64 * (w + 1)) base m
near_past n E table c w base m s l =
    record { some = s.some; all = λ v j a b y h q. s.all v j a (omega arith) y h q }

-- those that are free
pub open_from : (n : ℕ) (E : ℕ → ℕ → Bool) (table : List ℕ) (c base top low near m : ℕ) → Near n E table c 256 base near → n ≤ 256 → ((j : ℕ) → bit low j ≡ ltb j (min (top - base) 64)) → ((j : ℕ) → bit m j ≡ (bit low j && not (bit near j))) → Open n E table c base top m
open_from n E table c base top low near m s nl lows is =
    let parts : (j : ℕ) → bit m j ≡ true → (j < min (top - base) 64) × (bit near j ≡ false) = λ j y. (let p = and_parts (bit low j) (not (bit near j)) (sym (is j) ∙ y) in (ltb-true j (min (top - base) 64) (sym (lows j) ∙ p.0), not-true (bit near j) p.1)) in
    record {
      left = record {
        within = λ j y. let p = parts j y in omega (arith, p.0);
        high = λ j y. let p = parts j y in omega (arith, p.0);
        free = λ j y v l e q. both_ways (bit near j) (parts j y).1 (s.all v j l (omega arith) e (let p = parts j y in omega (arith, p.0)) q);
      };
      taken = λ j l h y. s.some j (let a : bit low j ≡ true = lows j ∙ lt-ltb j (min (top - base) 64) (omega arith) in let b = is j in grind (arith, nat_tests));
    }
