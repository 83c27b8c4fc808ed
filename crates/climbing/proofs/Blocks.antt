-- The step of a climb over plain values: the later neighbours, the block that is written, and what it stands for.
use Rattle.std.proofs.Common.{◌≡◌, ℕ, zero, suc, ◌+◌, ◌-◌, ◌<◌, ◌≤◌, Bool, true, false, cond, ◌&&◌, List, [], ◌∷◌, ◌++◌, length, get_or, take, drop, set, Some, None, Option, append_assoc, length-append, sym, refl, ap, ◌∙◌, subst, inl, inr, add-one, arith}
use lib.Seq.{drop-length}
use Rattle.std.specs.Option.{option_or}
use Rattle.std.proofs.lemmas.List.{append-nil, length_push, take_more_set}
use Rattle.std.proofs.lemmas.Bool.{cases_eq, and_parts, both_ways}
use Rattle.finite.specs.Finite.{count, has, members}
use Rattle.finite.specs.Masks.{bit}
use Rattle.finite.proofs.Counts.{has_none}
use Rattle.finite.proofs.Masks.{bit_zero}
use Rattle.graph.specs.Graph.{Graph, Lawful, held, clash}
use Rattle.graph.specs.declared.refusal.Refusal.{Refusal}
use Rattle.graph.proofs.Graphs.{clash_right}
use Rattle.degeneracy.specs.Order.{IsOrder, IsPeak}
use Rattle.pictures.specs.declared.shape.Picture.{Picture}
use Rattle.searching.specs.Answers.{Answers, AtMost, Largest}
use Rattle.climbing.specs.Climbs.{AtMostAmong, LargestAmong, EachOnce, BlockIn, Climbs, Reaches, Searched, FewLater, StepRefused, ClimbRefused, backward, later, later_list, last, near, picked, plus}
use Rattle.climbing.proofs.Steps.{most_same, largest_same, largest_plus, largest_stays, count_plus, plus_few}
use Rattle.climbing.proofs.Later.{Apart, later_has, later_apart, last_is, last_more, order_few}
use Rattle.climbing.proofs.Numbers.{number_empty, all_climbed}
use Rattle.climbing.proofs.Drawn.{picked_few, most_listed, most_drawn, largest_drawn}

-- ---- numbers taken from the end of a list

backward_last : (t : ℕ → Bool) (xs : List ℕ) (c : ℕ) → backward t (xs ++ c ∷ []) ≡ cond (t c) (c ∷ []) [] ++ backward t xs
unfolding backward
backward_last t [] c = sym (append-nil (cond (t c) (c ∷ []) []))
backward_last t (x ∷ xs) c =
    ap (λ (l : List ℕ). l ++ cond (t x) (x ∷ []) []) (backward_last t xs c) ∙ append_assoc (cond (t c) (c ∷ []) []) (backward t xs) (cond (t x) (x ∷ []) [])

module _ (t : ℕ → Bool) (all found rest rest' : List ℕ) (c : ℕ) (step : rest ≡ rest' ++ c ∷ []) (so_far : backward t all ≡ found ++ backward t rest) where
  pub gather_yes : t c ≡ true → backward t all ≡ (found ++ c ∷ []) ++ backward t rest'
  gather_yes y =
      so_far ∙ ap (λ (l : List ℕ). found ++ l) (ap (backward t) step ∙ backward_last t rest' c ∙ ap (λ (b : Bool). cond b (c ∷ []) [] ++ backward t rest') y) ∙ sym (append_assoc found (c ∷ []) (backward t rest'))

  pub gather_no : t c ≡ false → backward t all ≡ found ++ backward t rest'
  gather_no z =
      so_far ∙ ap (λ (l : List ℕ). found ++ l) (ap (backward t) step ∙ backward_last t rest' c ∙ ap (λ (b : Bool). cond b (c ∷ []) [] ++ backward t rest') z)

  pub gather_full : t c ≡ true → length found < length (backward t all)
  gather_full y =
      omega (arith, ap length (gather_yes y), length-append (found ++ c ∷ []) (backward t rest'), length_push found c)

pub gather_all : (t : ℕ → Bool) (all found rest : List ℕ) → length rest ≡ 0 → backward t all ≡ found ++ backward t rest → found ≡ backward t all
unfolding backward
gather_all t all found [] e so_far = sym (so_far ∙ append-nil found)
gather_all t all found (x ∷ rest) e so_far = absurd (omega arith)

-- ---- the members of the block, written rising

pub members_yes : (t : ℕ → Bool) (c : ℕ) → t c ≡ true → members t (c + 1) ≡ members t c ++ c ∷ []
unfolding members
members_yes t c y = ap (members t) (add-one c) ∙ ap (λ (b : Bool). members t c ++ cond b (c ∷ []) []) y

pub members_no : (t : ℕ → Bool) (c : ℕ) → t c ≡ false → members t (c + 1) ≡ members t c
unfolding members
members_no t c z =
    ap (members t) (add-one c) ∙ ap (λ (b : Bool). members t c ++ cond b (c ∷ []) []) z ∙ append-nil (members t c)

pub block_none : (t : ℕ → Bool) (block : List ℕ) → take 0 block ≡ members t 0
unfolding members
block_none t block = refl

pub block_yes : (t : ℕ → Bool) (block : List ℕ) (n c : ℕ) → take n block ≡ members t c → n < length block → t c ≡ true → take (n + 1) (set block n c) ≡ members t (c + 1)
block_yes t block n c e l y =
    take_more_set block n c l ∙ ap (λ (xs : List ℕ). xs ++ c ∷ []) e ∙ sym (members_yes t c y)

pub block_no : (t : ℕ → Bool) (block : List ℕ) (n c : ℕ) → take n block ≡ members t c → t c ≡ false → take n block ≡ members t (c + 1)
block_no t block n c e z = e ∙ sym (members_no t c z)

pub block_few : (q : List ℕ) (k v n : ℕ) → count (plus v (picked q k)) n ≤ length q + 1
block_few q k v n = let a = plus_few (picked q k) v n in let b = picked_few q k n in omega arith

-- ---- nothing but the empty clique

pub none_larger : (pic : Picture) (m : ℕ) → AtMost pic m 0 → Largest pic m 0
none_larger pic m h =
    let no : (i : ℕ) → bit 0 i ≡ true → ⊥ = λ i t. both_ways (bit 0 i) (bit_zero i) t in
    record {
      clique = record { placed = λ i t. absurd (no i t); inside = λ i t. absurd (no i t); joins = λ i j t. absurd (no i t) };
      most = λ K k. let a = h K k in omega arith;
    }

-- ---- what a search for more than a - 1 members answers

pub reaches_more : (pic : Picture) (m a n : ℕ) (r : Option ℕ) → 0 < a → n ≡ a - 1 → Answers pic m n r → Reaches pic m a r
reaches_more pic m a n None pos e h = (pos, λ K k. omega (arith, h K k))
reaches_more pic m a n (Some k) pos e h = (h.0, omega (arith, h.1))

pub reaches_any : (pic : Picture) (m a n : ℕ) (r : Option ℕ) → a ≡ 0 → n ≡ a - 1 → Answers pic m n r → Reaches pic m a (option_or r (Some 0))
reaches_any pic m a n None z e h = (none_larger pic m (λ K k. omega (arith, h K k)), omega arith)
reaches_any pic m a n (Some k) z e h = (h.0, omega arith)

-- ---- what the step makes of the block

module _ (g : Graph) (p q : List ℕ) (i : ℕ) (is : q ≡ later_list g p i) (law : Lawful g) (l : i < length p) (short : length q ≤ 63) where
  q_few : length (later_list g p i) ≤ 63
  q_few = omega (arith, ap length is)

  q_has : (c : ℕ) → has q c ≡ later g p i c
  q_has c = ap (λ (l : List ℕ). has l c) is ∙ later_has g p i c

  q_held : (c : ℕ) → has q c ≡ true → held g c ≡ true
  q_held c t =
      clash_right g (get_or p i 0) c (and_parts (has (drop (i + 1) p) c) (clash g (get_or p i 0) c) (sym (q_has c) ∙ t)).1

  q_apart : EachOnce g p → Apart q
  q_apart once = subst Apart (sym is) (later_apart g p i once.once)

  q_last : (j : ℕ) → i + j + 1 ≡ length p → (c : ℕ) → has q c ≡ near g (last p j) (get_or p i 0) c
  q_last j e c = q_has c ∙ ap (λ (k : ℕ). has (drop k p) c && clash g (get_or p i 0) c) (sym (last_is p i j e))

  pub climbs_larger : (before after : List ℕ) (a b k : ℕ) → Searched g q a (Some k) → b ≡ count (plus (get_or p i 0) (picked q k)) g.size → take b after ≡ members (plus (get_or p i 0) (picked q k)) g.size → Climbs g p i before after a b
  climbs_larger before after a b k sr many front = record {
    within = l;
    few = q_few;
    bound = λ _. omega (arith, many, block_few q k (get_or p i 0) g.size);
    step = λ j once e old.
        let lg = largest_same g (has q) (near g (last p j) (get_or p i 0)) (picked q k) (count (bit k) 64) (λ c t. sym (q_last j e c) ∙ t) (λ c t. q_last j e c ∙ t) (among once) in
        let big = largest_plus g (last p j) (last p (j + 1)) (picked q k) (get_or p i 0) a (count (bit k) 64) law (once.vertex i l) (last_more p i j e) lg old.largest.most (omega (arith, sr.found.1)) in
        let same : count (bit k) 64 + 1 ≡ b = sym big.many ∙ sym many in
        record { set = plus (get_or p i 0) (picked q k); largest = subst (LargestAmong g (last p (j + 1)) (plus (get_or p i 0) (picked q k))) same big; front = front };
    larger = λ once.
        let lg = among once in
        let c = count_plus g (has (drop (i + 1) p)) (picked q k) (get_or p i 0) law (once.vertex i l) lg.clique (λ c t. sym (q_has c) ∙ lg.within c t) in
        inl (omega (arith, lg.many, sr.found.1));
  }
    where
      among : EachOnce g p → LargestAmong g (has q) (picked q k) (count (bit k) 64)
      among once = largest_drawn g q sr.picture sr.mask sr.draws (q_apart once) q_held sr.full k sr.found.0

  pub climbs_kept : (block : List ℕ) (a b : ℕ) → (EachOnce g p → AtMostAmong g (has q) b) → b < a → Climbs g p i block block a a
  climbs_kept block a b few less-than = record {
    within = l;
    few = q_few;
    bound = λ h. h;
    step = λ j once e old.
        let less = most_same g (has q) (near g (last p j) (get_or p i 0)) b (λ c t. q_last j e c ∙ t) (few once) in
        record { set = old.set; largest = largest_stays g (last p j) (last p (j + 1)) old.set (get_or p i 0) b a (last_more p i j e) old.largest less (omega arith); front = old.front };
    larger = λ once. inr (refl, refl);
  }

  -- no clique of the picture is large enough
  pub climbs_same : (block : List ℕ) (a : ℕ) → Searched g q a None → Climbs g p i block block a a
  climbs_same block a sr =
      climbs_kept block a (a - 1) (λ once. most_drawn g q sr.picture sr.mask sr.draws (q_apart once) q_held sr.full (a - 1) sr.found.1) (omega (arith, sr.found.0))

  -- there are too few later neighbours
  pub climbs_few : (block : List ℕ) (a : ℕ) → length q < a → Climbs g p i block block a a
  climbs_few block a less-than = climbs_kept block a (length q) (λ once. most_listed g q) less-than

-- ---- all steps

members_empty : (n : ℕ) → members (λ c. false) n ≡ []
unfolding members
members_empty zero = refl
members_empty (suc n) = append-nil (members (λ c. false) n) ∙ members_empty n

module _ (g : Graph) (p : List ℕ) where
  pub climb_start : (block : List ℕ) → BlockIn g (last p 0) block 0
  climb_start block =
      let z : length p - 0 ≡ length p = omega arith in
      let none : (c : ℕ) → last p 0 c ≡ false = λ c. ap (λ (k : ℕ). has (drop k p) c) z ∙ ap (λ (l : List ℕ). has l c) (drop-length p) ∙ has_none c in
      record { set = λ c. false; largest = number_empty g (last p 0) none; front = sym (members_empty g.size) }

  pub climb_none : (block : List ℕ) (i : ℕ) → i ≡ length p → EachOnce g p → BlockIn g (last p (length p - i)) block 0
  climb_none block i e once =
      let z : 0 ≡ length p - i = omega arith in
      subst (λ (j : ℕ). BlockIn g (last p j) block 0) z (climb_start block)

  pub climb_more : (before after : List ℕ) (i a b : ℕ) → 0 < i → i ≤ length p → Climbs g p (i - 1) before after a b → (EachOnce g p → BlockIn g (last p (length p - i)) before a) → EachOnce g p → BlockIn g (last p (length p - (i - 1))) after b
  climb_more before after i a b pos le cl old once =
      let e : length p - i + 1 ≡ length p - (i - 1) = omega arith in
      subst (λ (j : ℕ). BlockIn g (last p j) after b) e (cl.step (length p - i) once (omega arith) (old once))

  pub few_none : (i : ℕ) → i ≡ length p → FewLater g p i
  few_none i e k h l = absurd (omega arith)

  pub few_more : (i : ℕ) → 0 < i → length (later_list g p (i - 1)) ≤ 63 → FewLater g p i → FewLater g p (i - 1)
  few_more i pos here rest k h l =
      elim (cases_eq k (i - 1)) [ inl e ↦ subst (λ (n : ℕ). length (later_list g p n) ≤ 63) (sym e) here | inr ne ↦ rest k (omega arith) l ]

  pub few_all : (i : ℕ) → i ≡ 0 → FewLater g p i → FewLater g p 0
  few_all i e f k h l = f k (omega arith) l

  pub climb_all : (block : List ℕ) (i b : ℕ) → i ≡ 0 → (EachOnce g p → BlockIn g (last p (length p - i)) block b) → EachOnce g p → BlockIn g (held g) block b
  climb_all block i b z old once =
      let e : length p - i ≡ length p = omega arith in
      all_climbed g p block b once (subst (λ (j : ℕ). BlockIn g (last p j) block b) e (old once))

  -- a refused step is one with too many later neighbours
  pub refused_dense : (i : ℕ) (x : Refusal) → i < length p → StepRefused g p i x → ClimbRefused g p x
  refused_dense i x l r = elim r [ inl o ↦ absurd (omega (arith, o.1)) | inr d ↦ (d.0, (i, d.1, d.2)) ]

  -- which does not happen in a removal order of a graph whose degeneracy is at most 63
  pub never_dense : (m : ℕ) (x : Refusal) → IsOrder g p → IsPeak g p m → m ≤ 63 → ClimbRefused g p x → ⊥
  never_dense m x o pk l r =
      let w = r.1 in
      let a = order_few g p w.0 o w.1 in
      let b = pk.above w.0 w.1 in
      omega (arith, w.2)

  -- so no step at a place of such an order is refused
  pub step_dense : (i : ℕ) (x : Refusal) (m : ℕ) → i < length p → IsOrder g p → IsPeak g p m → m ≤ 63 → StepRefused g p i x → ⊥
  step_dense i x m l o pk h r = never_dense m x o pk h (refused_dense i x l r)
