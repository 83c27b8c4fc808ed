-- Masks that share a job.
use Rattle.std.specs.Prelude.{◌≡◌, ℕ, ◌*◌, ◌^◌, ◌<◌, ◌≤◌, Bool, true, false, not, ◌&&◌, ◌⊎◌, List, [], length, ◌==◌, ◌≢◌, bit_and, nat_lt, slice_index}
use mathlib.Core.Path.{refl, sym, ◌∙◌, ap}
use Rattle.std.proofs.Common.{inl, inr, arith}
use Rattle.std.proofs.lemmas.Bool.{cases_Bool, cases_eq, lt-ltb, le-ltb, ne_eqb, eq-eqb, or_from, or_left, or_right, or_parts, ltb-false}
use Rattle.finite.specs.Finite.{any, count, pairs}
use Rattle.finite.specs.Masks.{bit}
use Rattle.finite.proofs.Masks.{meet_none, meet_some, meet_both}
use Rattle.finite.proofs.Pairs.{pairs_le}
use Rattle.graph.specs.Graph.{Graph, Lawful, clash, degree, edges}
use Rattle.graph.proofs.Hiding.{unheld_degree}
use Rattle.jobs.specs.Jobs.{share, sharing, big}

-- what the machine tests
pub share_test : (x y : ℕ) → x < 2 ^ 64 → not (bit_and x y == 0) ≡ share x y
unfolding share
share_test x y l =
    elim (cases_eq (bit_and x y) 0) [
      | inl e ↦ rw (eq-eqb (bit_and x y) 0 e) (sym (meet_none 64 x y e))
      | inr e ↦ rw (ne_eqb (bit_and x y) 0 e) (sym (meet_some 64 x y l (omega arith)))
    ]

pub any_same : (p q : ℕ → Bool) (n : ℕ) → ((j : ℕ) → p j ≡ q j) → any p n ≡ any q n
any_same p q n f = ap (λ (t : ℕ → Bool). any t n) (mathlib.Core.Path.fun_ext f)

share_both : (x y : ℕ) → share x y ≡ share y x
unfolding share
share_both x y = any_same (λ j. bit x j && bit y j) (λ j. bit y j && bit x j) 64 (meet_both x y)

eqb_both : (a b : ℕ) → (a == b) ≡ (b == a)
eqb_both a b =
    elim (cases_eq a b) [
      | inl e ↦ eq-eqb a b e ∙ sym (eq-eqb b a (sym e))
      | inr e ↦ ne_eqb a b e ∙ sym (ne_eqb b a (λ d. e (sym d)))
    ]

turn : (l m e s : Bool) → ((l && true) && ((m && true) && (e && s))) ≡ ((m && true) && ((l && true) && (e && s)))
turn l m e s = grind (arith, cases_Bool l, cases_Bool m, cases_Bool e, cases_Bool s)

pub sharing_lawful : (js : List ℕ) → length js ≤ 1024 → Lawful (sharing js)
sharing_lawful js l =
    record {
      small = omega arith;
      both = λ a b. turn (nat_lt a (length js)) (nat_lt b (length js)) (not (a == b)) (share (slice_index js a) (slice_index js b)) ∙ rw (eqb_both a b, share_both (slice_index js a) (slice_index js b)) refl;
      never = λ a. rw (eq-eqb a a refl) (none (nat_lt a (length js)));
    }
  where
    none : (x : Bool) → ((x && true) && ((x && true) && false)) ≡ false
    none x = grind (arith, cases_Bool x)

pub sharing_clash : (js : List ℕ) (a b : ℕ) → a < length js → b < length js → (a ≢ b) → clash (sharing js) a b ≡ share (slice_index js a) (slice_index js b)
sharing_clash js a b x y ne = rw (lt-ltb a (length js) x, lt-ltb b (length js) y, ne_eqb a b ne) refl

pub sharing_past : (js : List ℕ) (a b : ℕ) → (length js ≤ a) ⊎ (length js ≤ b) → clash (sharing js) a b ≡ false
sharing_past js a b (inl h) = rw (le-ltb a (length js) h) refl
sharing_past js a b (inr h) = rw (le-ltb b (length js) h) (none (nat_lt a (length js)))
  where
    none : (x : Bool) → ((x && true) && false) ≡ false
    none x = grind (arith, cases_Bool x)

pub edges_le : (g : Graph) → g.size ≤ 1024 → edges g ≤ g.size * 1024
unfolding edges
edges_le g l = pairs_le (clash g) 1024 g.size l

pub edges_all : (g : Graph) → pairs (clash g) g.size ≡ edges g
unfolding edges
edges_all g = refl

pub big_no : (js : List ℕ) → length js ≤ 1024 → edges (sharing js) ≤ 16384 → big js ≡ false
big_no js x y = or_from (nat_lt 1024 (length js)) (nat_lt 16384 (edges (sharing js))) (le-ltb 1024 (length js) x) (le-ltb 16384 (edges (sharing js)) y)

pub big_many : (js : List ℕ) → 1024 < length js → big js ≡ true
big_many js h = or_left (nat_lt 1024 (length js)) (nat_lt 16384 (edges (sharing js))) (lt-ltb 1024 (length js) h)

pub big_full : (js : List ℕ) → 16384 < edges (sharing js) → big js ≡ true
big_full js h = or_right (nat_lt 1024 (length js)) (nat_lt 16384 (edges (sharing js))) (lt-ltb 16384 (edges (sharing js)) h)

pub big_parts : (js : List ℕ) → big js ≡ false → length js ≤ 1024
big_parts js e = ltb-false 1024 (length js) (or_parts (nat_lt 1024 (length js)) (nat_lt 16384 (edges (sharing js))) e).0

pub big_none : (js : List ℕ) → js ≡ [] → big js ≡ false
unfolding edges pairs
big_none js e = rw e refl

pub past_degree : (js : List ℕ) (c : ℕ) → length js ≤ c → 0 ≡ degree (sharing js) c
past_degree js c l = unheld_degree (sharing js) c (rw (le-ltb c (length js) l) refl)

pub degree_all : (js : List ℕ) (c n : ℕ) → n ≡ length js → count (clash (sharing js) c) n ≡ degree (sharing js) c
unfolding degree
degree_all js c n e = ap (count (clash (sharing js) c)) e
