-- The steps of the search.
use Rattle.std.proofs.Common.{◌≡◌, ℕ, ◌+◌, ◌-◌, ◌<◌, ◌≤◌, min, max, Bool, true, false, not, ◌&&◌, eqb, List, length, set, MatchBool, sym, refl, ap, ◌∙◌, inl, inr, arith, get_or-set_other, get_or-set_same}
use Rattle.std.proofs.lemmas.List.{set-set, set-get_or, length-set}
use Rattle.std.proofs.lemmas.Bool.{cases_Bool, cases_eq, cases_lt, both_ways, and_parts, eq-eqb, ne_eqb}
use Rattle.std.proofs.lemmas.Bool.Decides.{nat_tests}
use Rattle.finite.specs.Finite.{count}
use Rattle.finite.specs.Masks.{bit}
use Rattle.finite.proofs.Counts.{count_le, count_less, count_pos}
use Rattle.finite.proofs.Masks.{bit_none}
use Rattle.placings.specs.Rows.{Even, Loopless}
use Rattle.placings.specs.Colours.{Colours, Extends, at}
use Rattle.placings.specs.Tries.{blank, Ready, Filled, Stuck, StuckPast, StuckIn, Left, Open}
use Rattle.placings.proofs.Swaps.{cut}

-- what stands in the table once d is put at c
pub put_off : (t : List ℕ) (c d i : ℕ) → (i ≡ c → ⊥) → at (set t c d) i ≡ at t i
put_off t c d i ne = get_or-set_other t c i d 0 ne

pub put_here : (t : List ℕ) (c d : ℕ) → c < length t → at (set t c d) c ≡ d
put_here t c d l = get_or-set_same t c d 0 l

pub put_undone : (t : List ℕ) (c d : ℕ) → at t c ≡ 0 → set (set t c d) c 0 ≡ t
put_undone t c d z = set-set t c d 0 ∙ ap (set t c) (sym z) ∙ set-get_or t c 0

-- one place fewer is blank
pub blank_fewer : (n c d : ℕ) (t : List ℕ) → c < n → n ≤ length t → at t c ≡ 0 → 1 ≤ d → count (blank t) n ≡ count (blank (set t c d)) n + 1
blank_fewer n c d t l long z one =
    let lt : c < length t = omega arith in
    let here = put_here t c d lt in
    count_less (blank t) (blank (set t c d)) c n l (eq-eqb (at t c) 0 z) (ne_eqb (at (set t c d) c) 0 (λ e. omega arith)) (λ i ne. ap (λ (x : ℕ). eqb x 0) (sym (put_off t c d i ne)))

module _ (n : ℕ) (E : ℕ → ℕ → Bool) (k : ℕ) where
  pub ready_none : (t : List ℕ) → n ≤ length t → ((i : ℕ) → i < n → at t i ≡ 0) → Ready n E k 0 t
  ready_none t l z =
      record {
        long = l;
        apart = λ i j m o y ne. absurd (ne (z i m));
        capped = λ i m. omega (arith, z i m);
        few = omega arith;
        behind = omega (arith, count_le (blank t) n);
      }

  -- room for one more colour
  pub ready_room : (used c : ℕ) (t : List ℕ) → Ready n E k used t → c < n → at t c ≡ 0 → used < n
  ready_room used c t s l z = omega (arith, s.behind, count_pos (blank t) n c l (eq-eqb (at t c) 0 z))

  -- d at c, where no place has it that is joined to c
  pub ready_more : (used c d : ℕ) (t : List ℕ) → Even n E → Loopless n E → Ready n E k used t → c < n → at t c ≡ 0 → 1 ≤ d → d ≤ k → d ≤ used + 1 → ((v : ℕ) → v < n → E c v ≡ true → at t v ≡ d → ⊥) → Ready n E k (max used d) (set t c d)
  ready_more used c d t even loopless s l z one top new free =
      let lt : c < length t = omega (arith, s.long) in
      let here = put_here t c d lt in
      let old : (i : ℕ) → (i ≡ c → ⊥) → at (set t c d) i ≡ at t i = put_off t c d in
      record {
        long = simp length-set s.long;
        apart = λ i j m o y ne q. elim (cases_eq i c) [
          | inl e ↦ elim (cases_eq j c) [
            | inl w ↦ both_ways (E i j) (ap (λ v. E v j) e ∙ ap (E c) w ∙ loopless c l) y
            | inr nj ↦ free j o (ap (λ v. E v j) (sym e) ∙ y) (sym (old j nj) ∙ sym q ∙ ap (at (set t c d)) e ∙ here)
          ]
          | inr ni ↦ elim (cases_eq j c) [
            | inl w ↦ free i m (even c i (l, m) ∙ ap (E i) (sym w) ∙ y) (sym (old i ni) ∙ q ∙ ap (at (set t c d)) w ∙ here)
            | inr nj ↦ s.apart i j m o y (λ u. ne (old i ni ∙ u)) (sym (old i ni) ∙ q ∙ old j nj)
          ]
        ];
        capped = λ i m. elim (cases_eq i c) [ inl e ↦ omega (arith, ap (at (set t c d)) e) | inr ne ↦ omega (arith, old i ne, s.capped i m) ];
        few = omega (arith, s.few);
        behind = omega (arith, s.behind, blank_fewer n c d t l s.long z one);
      }

  -- every place has a colour
  pub filled_all : (used : ℕ) (t : List ℕ) → Ready n E k used t → ((i : ℕ) → i < n → at t i ≡ 0 → ⊥) → Filled n E k t t
  filled_all used t s all =
      record {
        colours = record {
          low = λ i m. elim (cases_eq (at t i) 0) [ inl e ↦ absurd (all i m e) | inr ne ↦ omega arith ];
          high = λ i m. omega (arith, s.capped i m, s.few);
          apart = λ i j m o y q. s.apart i j m o y (all i m) q;
        };
        rest = λ i m. refl;
      }

  pub filled_back : (c d : ℕ) (t after : List ℕ) → c < n → Filled n E k (set t c d) after → Filled n E k t after
  filled_back c d t after l s =
      record { colours = s.colours; rest = λ i m. s.rest i m ∙ put_off t c d i (λ e. omega arith) }

  -- why the colour d at c leads nowhere
  pub no_put : (c d : ℕ) (t after : List ℕ) → c < length t → Stuck n E k (set t c d) after → (f : ℕ → ℕ) → Colours n E k f → Extends n f (at t) → f c ≡ d → ⊥
  no_put c d t after l s f h same e =
      s.none f h (λ i m ne. elim (cases_eq i c) [
        | inl q ↦ ap f q ∙ e ∙ sym (put_here t c d l) ∙ ap (at (set t c d)) (sym q)
        | inr o ↦ same i m (λ u. ne (put_off t c d i o ∙ u)) ∙ sym (put_off t c d i o)
      ])

  pub no_free : (c d : ℕ) (t : List ℕ) → c < n → (v : ℕ) → v < n → E c v ≡ true → at t v ≡ d → (f : ℕ → ℕ) → Colours n E k f → Extends n f (at t) → f c ≡ d → ⊥
  no_free c d t l v m y e f h same q =
      h.apart c v l m y (q ∙ sym e ∙ sym (same v m (λ z. (let one = h.low c l in omega arith))))

  -- the colours that are not open need no try
  pub stuck_open : (c base left top : ℕ) (t after : List ℕ) → c < n → Open n E t c base top left → StuckIn n E k c base left top t after → StuckPast n E k c base top t after
  stuck_open c base left top t after l o s =
      record {
        none = λ f h same lo hi. s.none f h same lo hi (λ m. elim (cases_Bool (bit left (f c - base - 1))) [
          | inl y ↦ y
          | inr y ↦ absurd (let w = o.taken (f c - base - 1) (omega arith) (omega arith) y in no_free c (f c) t l w.0 w.1 w.2 (omega (arith, w.3)) f h same refl)
        ]);
        same = s.same;
      }

  -- none of the 64 is left, and there are no more
  pub stuck_last : (c base left top : ℕ) (t : List ℕ) → left ≡ 0 → top ≤ base + 64 → StuckIn n E k c base left top t t
  stuck_last c base left top t z l =
      record { none = λ f h same lo hi m. both_ways (bit left (f c - base - 1)) (bit_none left (f c - base - 1) z) (m (omega arith)); same = refl }

  -- or the next 64 tell
  pub stuck_page : (c base left top : ℕ) (t after : List ℕ) → left ≡ 0 → StuckPast n E k c (base + 64) top t after → StuckIn n E k c base left top t after
  stuck_page c base left top t after z s =
      record {
        none = λ f h same lo hi m. elim (cases_lt (base + 64) (f c)) [
          | inl l ↦ s.none f h same l hi
          | inr l ↦ both_ways (bit left (f c - base - 1)) (bit_none left (f c - base - 1) z) (m l)
        ];
        same = s.same;
      }

  -- one of them was tried
  pub stuck_next : (c base left rest j top : ℕ) (t after : List ℕ) → ((f : ℕ → ℕ) → Colours n E k f → Extends n f (at t) → f c ≡ base + j + 1 → ⊥) → ((i : ℕ) → bit rest i ≡ (bit left i && not (eqb i j))) → StuckIn n E k c base rest top t after → StuckIn n E k c base left top t after
  stuck_next c base left rest j top t after no-j is s =
      record {
        none = λ f h same lo hi m. elim (cases_eq (f c) (base + j + 1)) [
          | inl e ↦ no-j f h same e
          | inr ne ↦ s.none f h same lo hi (λ l. let y = m l in let o : f c - base - 1 ≡ j → ⊥ = λ q. ne (omega arith) in is (f c - base - 1) ∙ grind (arith, nat_tests))
        ];
        same = s.same;
      }

  -- at most one colour that is new
  pub stuck_cut : (c used : ℕ) (t after : List ℕ) → c < n → ((i : ℕ) → i < n → at t i ≤ used) → StuckPast n E k c 0 (min k (used + 1)) t after → Stuck n E k t after
  stuck_cut c used t after l capped s =
      record {
        none = cut n E k c used (at t) l capped (λ f h same m. let lo = h.low c l in let hi = h.high c l in s.none f h same (omega arith) (omega arith));
        same = s.same;
      }

  -- what each step answers
  pub chosen_page : (c base left next top : ℕ) (t after : List ℕ) (r : Bool) → c < n → left ≡ 0 → Open n E t c (base + 64) top next → MatchBool r (Filled n E k t after) (StuckIn n E k c (base + 64) next top t after) → MatchBool r (Filled n E k t after) (StuckIn n E k c base left top t after)
  chosen_page c base left next top t after true l z o s = s
  chosen_page c base left next top t after false l z o s =
      stuck_page c base left top t after z (stuck_open c (base + 64) next top t after l o s)

  pub chosen_next : (c base left rest j top : ℕ) (t after : List ℕ) (r : Bool) → ((f : ℕ → ℕ) → Colours n E k f → Extends n f (at t) → f c ≡ base + j + 1 → ⊥) → ((i : ℕ) → bit rest i ≡ (bit left i && not (eqb i j))) → MatchBool r (Filled n E k t after) (StuckIn n E k c base rest top t after) → MatchBool r (Filled n E k t after) (StuckIn n E k c base left top t after)
  chosen_next c base left rest j top t after true no-j is s = s
  chosen_next c base left rest j top t after false no-j is s = stuck_next c base left rest j top t after no-j is s

  pub placed_cut : (c used left : ℕ) (t after : List ℕ) (r : Bool) → Ready n E k used t → c < n → Open n E t c 0 (min k (used + 1)) left → MatchBool r (Filled n E k t after) (StuckIn n E k c 0 left (min k (used + 1)) t after) → MatchBool r (Filled n E k t after) (Stuck n E k t after)
  placed_cut c used left t after true s l o w = w
  placed_cut c used left t after false s l o w =
      stuck_cut c used t after l s.capped (stuck_open c 0 left (min k (used + 1)) t after l o w)

  -- the whole search, in a blank table
  pub none_at_all : (t after : List ℕ) → ((i : ℕ) → i < n → at t i ≡ 0) → Stuck n E k t after → (f : ℕ → ℕ) → Colours n E k f → ⊥
  none_at_all t after z s f h = s.none f h (λ i m ne. absurd (ne (z i m)))

  pub colours_same : (f h : ℕ → ℕ) → ((i : ℕ) → i < n → h i ≡ f i) → Colours n E k f → Colours n E k h
  colours_same f h e s =
      record {
        low = λ i l. omega (arith, e i l, s.low i l);
        high = λ i l. omega (arith, e i l, s.high i l);
        apart = λ i j l m y q. s.apart i j l m y (sym (e i l) ∙ q ∙ e j m);
      }

-- what is left once one was tried
pub left_fewer : (n : ℕ) (E : ℕ → ℕ → Bool) (t : List ℕ) (c base top m rest j : ℕ) → Left n E t c base top m → ((i : ℕ) → bit rest i ≡ (bit m i && not (eqb i j))) → Left n E t c base top rest
left_fewer n E t c base top m rest j s is =
    let part : (i : ℕ) → bit rest i ≡ true → bit m i ≡ true = λ i y. (and_parts (bit m i) (not (eqb i j)) (sym (is i) ∙ y)).0 in
    record { within = λ i y. s.within i (part i y); high = λ i y. s.high i (part i y); free = λ i y. s.free i (part i y) }
