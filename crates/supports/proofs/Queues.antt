-- A queue that grows at its end: `taken` up to `tail`, from `old` up to `start`; p tells what was put in.
use Rattle.std.proofs.Common.{◌≡◌, ℕ, ◌+◌, ◌-◌, ◌<◌, ◌≤◌, Bool, true, false, cond, ◌&&◌, ◌||◌, eqb, ltb, List, [], ◌∷◌, ◌++◌, length, get_or, take, drop, set, sym, refl, ap, ◌∙◌, subst, inl, inr, arith, get_or-set_other, get_or-set_same}
use Rattle.std.proofs.lemmas.List.{length-set, length-take-le, take_more, take_more_set, take-set-le, take-take, get_or-take, drop-set-lt, drop-drop}
use Rattle.std.proofs.lemmas.Bool.{cases_eq, cases_lt, and_parts, or_left, or_right, lt-ltb, le-ltb, eq-eqb, ne_eqb}
use Rattle.std.proofs.lemmas.Bool.Decides.{nat_tests}
use Rattle.finite.specs.Finite.{count, has}
use Rattle.finite.proofs.Counts.{count_le, has_none, has_push}
use Rattle.supports.specs.Peel.{alive}
use Rattle.supports.proofs.Peels.{has_push_count, many_front}
use Rattle.supports.proofs.Draining.{Lowered}

pub drop_later : {X : Type 0} (t u : ℕ) (xs ys : List X) → t ≤ u → drop t xs ≡ drop t ys → drop u xs ≡ drop u ys
drop_later t u xs ys l e =
    let z : t + (u - t) ≡ u = omega arith in
    subst (λ v. drop v xs ≡ drop v ys) z (sym (drop-drop (u - t) t xs) ∙ ap (drop (u - t)) e ∙ drop-drop (u - t) t ys)

pub record Queue (n : ℕ) (p : ℕ → Bool) (old taken : List ℕ) (start tail : ℕ) : Type 0 where
  pub same : take start taken ≡ take start old
  pub grows : start ≤ tail
  pub fits : tail ≤ length taken
  pub queue : (c : ℕ) → has (take tail taken) c ≡ (has (take start old) c || p c)
  pub many : count (has (take tail taken)) n ≡ tail
  pub new : (j : ℕ) → start ≤ j → j < tail → p (get_or taken j 0) ≡ true
  pub rest : drop tail taken ≡ drop tail old

pub queue_none : (n : ℕ) (p : ℕ → Bool) (old : List ℕ) (start : ℕ) → start ≤ length old → count (has (take start old)) n ≡ start → ((c : ℕ) → p c ≡ false) → Queue n p old old start start
queue_none n p old start l m f =
    record { same = refl; grows = omega arith; fits = l; queue = λ c. let h = f c in grind (arith, nat_tests); many = m; new = λ j a b. absurd (omega arith); rest = refl }

pub queue_skip : (n : ℕ) (p q : ℕ → Bool) (old taken : List ℕ) (start tail : ℕ) → Queue n p old taken start tail → ((c : ℕ) → q c ≡ p c) → Queue n q old taken start tail
queue_skip n p q old taken start tail s e =
    record { same = s.same; grows = s.grows; fits = s.fits; queue = λ c. s.queue c ∙ ap (λ (b : Bool). has (take start old) c || b) (sym (e c)); many = s.many; new = λ j a b. e (get_or taken j 0) ∙ s.new j a b; rest = s.rest }

module _ (n : ℕ) (p : ℕ → Bool) (old taken : List ℕ) (start tail x : ℕ) (s : Queue n p old taken start tail) (room : n ≤ length taken) (l : x < n) (out : has (take tail taken) x ≡ false) where
  pub queue_room : tail < n
  queue_room =
      let a = has_push_count n (take tail taken) x l out in
      let b = count_le (has (take tail taken ++ x ∷ [])) n in
      omega (arith, s.many)

  pub queue_push : (q : ℕ → Bool) → ((c : ℕ) → q c ≡ (p c || eqb x c)) → Queue n q old (set taken tail x) start (tail + 1)
  queue_push q e =
      let r = queue_room in
      let t = take_more_set taken tail x (omega arith) in
      record {
        same = take-set-le start taken tail x s.grows ∙ s.same;
        grows = omega (arith, s.grows);
        fits = simp length-set (omega arith);
        queue = λ c. let h = ap (λ v. has v c) t ∙ has_push (take tail taken) x c in let k = s.queue c in let m = e c in grind (arith, nat_tests);
        many = ap (λ v. count (has v) n) t ∙ has_push_count n (take tail taken) x l out ∙ ap (λ (v : ℕ). v + 1) s.many;
        new = λ j a b. elim (cases_eq j tail) [
          | inl i ↦ let g : get_or (set taken tail x) j 0 ≡ x = ap (λ v. get_or (set taken tail x) v 0) i ∙ get_or-set_same taken tail x 0 (omega arith) in
              ap q g ∙ e x ∙ or_right (p x) (eqb x x) (eq-eqb x x refl)
          | inr i ↦ let g = get_or-set_other taken tail j x 0 i in
              ap q g ∙ e (get_or taken j 0) ∙ or_left (p (get_or taken j 0)) (eqb x (get_or taken j 0)) (s.new j a (omega arith))
        ];
        rest = drop-set-lt (tail + 1) taken tail x (omega arith) ∙ drop_later tail (tail + 1) taken old (omega arith) s.rest;
      }

-- the living items with a count below k, looked at up to c
unfoldable pub lesser : ℕ → List ℕ → List ℕ → ℕ → ℕ → ℕ → Bool
lesser n living counts k c i = ltb i c && (alive n living i && ltb (get_or counts i 0) k)

pub lesser_none : (n : ℕ) (living counts : List ℕ) (k i : ℕ) → lesser n living counts k 0 i ≡ false
unfolding lesser
lesser_none n living counts k i = let h = le-ltb i 0 (omega arith) in grind (arith, nat_tests)

pub lesser_yes : (n : ℕ) (living counts : List ℕ) (k c : ℕ) → c < n → get_or living c 0 ≡ 1 → get_or counts c 0 < k → (i : ℕ) → lesser n living counts k (c + 1) i ≡ (lesser n living counts k c i || eqb c i)
unfolding lesser alive
lesser_yes n living counts k c l y z i =
    elim (cases_eq c i) [
      | inl e ↦ let a = lt-ltb i (c + 1) (omega arith) in
          let q = eq-eqb c i e in
          let b = lt-ltb i n (omega arith) in
          let d = eq-eqb (get_or living i 0) 1 (ap (λ v. get_or living v 0) (sym e) ∙ y) in
          let f = lt-ltb (get_or counts i 0) k (let h = ap (λ v. get_or counts v 0) e in omega arith) in
          grind (arith, nat_tests)
      | inr e ↦ let q = ne_eqb c i e in
          elim (cases_lt i c) [
            | inl m ↦ let a = lt-ltb i (c + 1) (omega arith) in let b = lt-ltb i c m in grind (arith, nat_tests)
            | inr m ↦ let a = le-ltb i (c + 1) (omega arith) in let b = le-ltb i c m in grind (arith, nat_tests)
          ]
    ]

pub lesser_no : (n : ℕ) (living counts : List ℕ) (k c : ℕ) → ((get_or living c 0 ≡ 1) → get_or counts c 0 < k → ⊥) → (i : ℕ) → lesser n living counts k (c + 1) i ≡ lesser n living counts k c i
unfolding lesser alive
lesser_no n living counts k c un i =
    elim (cases_eq i c) [
      | inl e ↦ let b = le-ltb i c (omega arith) in
          let z : (ltb i n && eqb (get_or living i 0) 1 && ltb (get_or counts i 0) k) ≡ false = elim (cases_eq (get_or living i 0) 1) [
            | inr ne ↦ let d = ne_eqb (get_or living i 0) 1 ne in grind (arith, nat_tests)
            | inl y ↦ elim (cases_lt (get_or counts i 0) k) [
              | inr m ↦ let f = le-ltb (get_or counts i 0) k m in grind (arith, nat_tests)
              | inl m ↦ absurd (un (ap (λ v. get_or living v 0) (sym e) ∙ y) (let h = ap (λ v. get_or counts v 0) e in omega arith))
            ]
          ] in
          grind (arith, nat_tests)
      | inr e ↦ elim (cases_lt i c) [
        | inl m ↦ let a = lt-ltb i (c + 1) (omega arith) in let b = lt-ltb i c m in grind (arith, nat_tests)
        | inr m ↦ let a = le-ltb i (c + 1) (omega arith) in let b = le-ltb i c m in grind (arith, nat_tests)
      ]
    ]

pub lesser_out : (n : ℕ) (living counts : List ℕ) (k c : ℕ) → lesser n living counts k c c ≡ false
unfolding lesser
lesser_out n living counts k c = let h = le-ltb c c (omega arith) in grind (arith, nat_tests)

pub lesser_all : (n : ℕ) (living counts : List ℕ) (k i : ℕ) → lesser n living counts k n i ≡ (alive n living i && ltb (get_or counts i 0) k)
unfolding lesser alive
lesser_all n living counts k i = grind (arith, nat_tests)

-- of the first j losers, those that have just fallen below k
unfoldable pub fallen : List ℕ → List ℕ → ℕ → ℕ → ℕ → Bool
fallen out counts k j c = has (take j out) c && eqb (get_or counts c 0 + 1) k

pub fallen_none : (out counts : List ℕ) (k c : ℕ) → fallen out counts k 0 c ≡ false
unfolding fallen
fallen_none out counts k c = let h = has_none c in grind (arith, nat_tests)

pub fallen_yes : (out counts : List ℕ) (k j : ℕ) → j < length out → get_or counts (get_or out j 0) 0 + 1 ≡ k → (c : ℕ) → fallen out counts k (j + 1) c ≡ (fallen out counts k j c || eqb (get_or out j 0) c)
unfolding fallen
fallen_yes out counts k j l e c =
    let h = ap (λ p. has p c) (take_more out j 0 l) ∙ has_push (take j out) (get_or out j 0) c in
    elim (cases_eq (get_or out j 0) c) [
      | inl i ↦ let q = eq-eqb (get_or out j 0) c i in let z = eq-eqb (get_or counts c 0 + 1) k (ap (λ v. get_or counts v 0 + 1) (sym i) ∙ e) in grind (arith, nat_tests)
      | inr i ↦ let q = ne_eqb (get_or out j 0) c i in grind (arith, nat_tests)
    ]

pub fallen_no : (out counts : List ℕ) (k j : ℕ) → j < length out → (get_or counts (get_or out j 0) 0 + 1 ≡ k → ⊥) → (c : ℕ) → fallen out counts k (j + 1) c ≡ fallen out counts k j c
unfolding fallen
fallen_no out counts k j l ne c =
    let h = ap (λ p. has p c) (take_more out j 0 l) ∙ has_push (take j out) (get_or out j 0) c in
    elim (cases_eq (get_or out j 0) c) [
      | inl i ↦ let z = ne_eqb (get_or counts c 0 + 1) k (λ e. ne (ap (λ v. get_or counts v 0 + 1) i ∙ e)) in grind (arith, nat_tests)
      | inr i ↦ let q = ne_eqb (get_or out j 0) c i in grind (arith, nat_tests)
    ]

pub fallen_all : (out counts : List ℕ) (k j c : ℕ) → fallen out counts k j c ≡ (has (take j out) c && eqb (get_or counts c 0 + 1) k)
unfolding fallen
fallen_all out counts k j c = refl

-- lowering and queueing together
pub lowered_from : (n k : ℕ) (out counts counts' taken taken' : List ℕ) (tail tail' lost : ℕ) → ((c : ℕ) → get_or counts c 0 ≡ get_or counts' c 0 + cond (has (take lost out) c) 1 0) → Queue n (fallen out counts' k lost) taken taken' tail tail' → Lowered n k (take lost out) counts counts' taken taken' tail tail'
unfolding fallen
lowered_from n k out counts counts' taken taken' tail tail' lost low q =
    record {
      low = low;
      same = q.same;
      grows = q.grows;
      fits = q.fits;
      queue = q.queue;
      many = q.many;
      new = λ j a b. (and_parts (has (take lost out) (get_or taken' j 0)) (eqb (get_or counts' (get_or taken' j 0) 0 + 1) k) (q.new j a b)).0;
    }

-- each place of the losers is new
pub out_fresh : (n : ℕ) (out : List ℕ) (lost j : ℕ) → count (has (take lost out)) n ≡ lost → lost ≤ length out → j < lost → has (take j out) (get_or out j 0) ≡ false
out_fresh n out lost j m fits l =
    let t = length-take-le lost out fits in
    let f = many_front n (take lost out) j (m ∙ sym t) (omega arith) in
    ap (λ p. has p (get_or out j 0)) (sym (take-take j lost out (omega arith))) ∙ ap (has (take j (take lost out))) (sym (get_or-take lost out j 0 l)) ∙ f

-- one count is lowered
pub low_more : (out before counts : List ℕ) (n lost j v : ℕ) → count (has (take lost out)) n ≡ lost → lost ≤ length out → j < lost → ((c : ℕ) → get_or before c 0 ≡ get_or counts c 0 + cond (has (take j out) c) 1 0) → get_or out j 0 < length counts → v + 1 ≡ get_or counts (get_or out j 0) 0 → (c : ℕ) → get_or before c 0 ≡ get_or (set counts (get_or out j 0) v) c 0 + cond (has (take (j + 1) out) c) 1 0
low_more out before counts n lost j v m fits l low within e c =
    let h = ap (λ p. has p c) (take_more out j 0 (omega arith)) ∙ has_push (take j out) (get_or out j 0) c in
    let k = low c in
    elim (cases_eq c (get_or out j 0)) [
      | inl i ↦ let f = out_fresh n out lost j m fits l in
          let g = ap (λ x. get_or (set counts (get_or out j 0) v) x 0) i ∙ get_or-set_same counts (get_or out j 0) v 0 within in
          let q = eq-eqb (get_or out j 0) c (sym i) in
          let w = ap (has (take j out)) i in
          let u = ap (λ x. get_or counts x 0) i in
          grind (arith, nat_tests)
      | inr i ↦ let g = get_or-set_other counts (get_or out j 0) c v 0 i in let q = ne_eqb (get_or out j 0) c (λ z. i (sym z)) in grind (arith, nat_tests)
    ]

-- what is lowered next has a count above 0
pub low_positive : (out before counts : List ℕ) (n lost j : ℕ) → count (has (take lost out)) n ≡ lost → lost ≤ length out → j < lost → ((c : ℕ) → get_or before c 0 ≡ get_or counts c 0 + cond (has (take j out) c) 1 0) → 0 < get_or before (get_or out j 0) 0 → 0 < get_or counts (get_or out j 0) 0
low_positive out before counts n lost j m fits l low pos =
    let f = out_fresh n out lost j m fits l in let k = low (get_or out j 0) in grind (arith, nat_tests)

-- what is queued next was not queued before
pub fallen_fresh : (n k : ℕ) (out counts old taken : List ℕ) (start end lost j : ℕ) → count (has (take lost out)) n ≡ lost → lost ≤ length out → j < lost → Queue n (fallen out counts k j) old taken start end → has (take start old) (get_or out j 0) ≡ false → has (take end taken) (get_or out j 0) ≡ false
unfolding fallen
fallen_fresh n k out counts old taken start end lost j m fits l q e =
    let f = out_fresh n out lost j m fits l in let h = q.queue (get_or out j 0) in grind (arith, nat_tests)

-- a queue from nothing has only what was put in
pub queue_fresh : (n : ℕ) (p : ℕ → Bool) (old taken : List ℕ) (tail x : ℕ) → Queue n p old taken 0 tail → p x ≡ false → has (take tail taken) x ≡ false
queue_fresh n p old taken tail x q e = let h = q.queue x in let z = has_none x in grind (arith, nat_tests)
