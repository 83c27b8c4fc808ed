-- What is left after peeling, listed and tried.
use Rattle.std.proofs.Common.{◌≡◌, ℕ, ◌+◌, ◌<◌, ◌≤◌, Bool, true, List, length, get_or, take, sym, refl, ap, ◌∙◌, subst, inl, inr, arith}
use Rattle.std.proofs.lemmas.Bool.{both_ways, cases_lt, le-ltb}
use Rattle.std.proofs.lemmas.Bool.Decides.{nat_tests}
use Rattle.finite.specs.Finite.{count, members}
use Rattle.finite.proofs.Counts.{count_same}
use Rattle.finite.proofs.Members.{length_members, count_rise, members_at, members_some, nth_in}
use Rattle.finite.proofs.Rising.{nth-get_or}
use Rattle.graph.specs.Graph.{Graph, held}
use Rattle.graph.proofs.Graphs.{inside_same, vertices_le}
use Rattle.graph.specs.declared.refusal.Refusal.{Refusal}
use Rattle.graph.specs.declared.refusal.Refusal.TheVariants.{TooDense}
use Rattle.order.specs.Order.{Dense, OrderRefused}
use Rattle.degeneracy.specs.Order.{survivors}
use Rattle.placings.specs.Rows.{Loopless}
use Rattle.placings.specs.Colours.{Colours}
use Rattle.supports.specs.Peel.{without, alive}
use Rattle.supports.proofs.Peels.{alive_below}
use Rattle.cores.specs.Cores.{CoreIn}
use Rattle.climbing.specs.Climbs.{BlockIn}
use Rattle.kernels.specs.Kernels.{Draws}
use Rattle.kernels.specs.declared.shape.Kernel.{Kernel}
use Rattle.trying.specs.Trying.{PulledIn, Wide}
use Rattle.peels.specs.Peels.{CoreLeft, Lists, CliqueNumber}

-- n places have a colouring in n colours
pub plenty : (n : ℕ) (E : ℕ → ℕ → Bool) (k : ℕ) → n ≤ k → Loopless n E → Colours n E k (λ i. i + 1)
plenty n E k l none =
    record {
      low = λ i h. omega arith;
      high = λ i h. omega arith;
      apart = λ i j h m y e. let z : i ≡ j = omega arith in both_ways (E i j) (ap (E i) (sym z) ∙ none i h) y;
    }

-- the members of a set, listed
pub members_list : (s : ℕ → Bool) (n : ℕ) → ((c : ℕ) → s c ≡ true → c < n) → Lists s (members s n)
members_list s n below =
    let part : (i : ℕ) → i < length (members s n) → (get_or (members s n) i 0 < n) × (s (get_or (members s n) i 0) ≡ true) × (count s (get_or (members s n) i 0) ≡ i) = λ i l. members_some s n i (get_or (members s n) i 0) (nth_in (members s n) i l) in
    record {
      only = λ i l. (part i l).1;
      all = λ c y. (count s c, (let a = count_rise s c n (below c y) y in let b = length_members s n in omega arith), nth-get_or (members s n) (count s c) c (members_at s n c (count s c) (below c y) y refl));
      once = λ i j l m e. sym (part i l).2 ∙ ap (count s) e ∙ (part j m).2;
    }

lists_same : (s t : ℕ → Bool) (xs : List ℕ) → ((c : ℕ) → s c ≡ t c) → Lists s xs → Lists t xs
lists_same s t xs e l =
    record { only = λ i h. sym (e (get_or xs i 0)) ∙ l.only i h; all = λ c y. l.all c (e c ∙ y); once = l.once }

-- the bytes after peeling tell what is left
pub living_left : (g : Graph) (t : ℕ) (living living' taken taken' : List ℕ) (len : ℕ) → CoreIn g t living living' taken taken' len → (c : ℕ) → alive g.size living' c ≡ survivors g (take len taken') c
unfolding alive without survivors
living_left g t living living' taken taken' len h c =
    elim (cases_lt c g.size) [
      | inl l ↦ let b = h.bytes c l in grind (arith, nat_tests)
      | inr l ↦ let b = le-ltb c g.size l in grind (arith, nat_tests)
    ]

pub core_left : (g : Graph) (t : ℕ) (living living' taken taken' : List ℕ) (len : ℕ) → CoreIn g t living living' taken taken' len → CoreLeft g t (take len taken')
unfolding without survivors
core_left g t living living' taken taken' len h =
    let e = living_left g t living living' taken taken' len h in
    record {
      peeled = record { taken = λ i l. (h.peels i l).member; few = λ i l. (h.peels i l).below };
      stuck = λ c y. let a = h.core.supported.each c (e c ∙ y) in
          let b = inside_same g (alive g.size living') (survivors g (take len taken')) c e in omega arith;
    }

pub left_listed : (g : Graph) (t : ℕ) (living living' taken taken' : List ℕ) (len : ℕ) → CoreIn g t living living' taken taken' len → Lists (survivors g (take len taken')) (members (alive g.size living') g.size)
left_listed g t living living' taken taken' len h =
    lists_same (alive g.size living') (survivors g (take len taken')) _ (living_left g t living living' taken taken' len h) (members_list (alive g.size living') g.size (alive_below g.size living'))

-- the block of the last step of a climb
pub block_number : (g : Graph) (block : List ℕ) (b : ℕ) → BlockIn g (held g) block b → CliqueNumber g b
block_number g block b h =
    record {
      reached = (h.set, record { clique = h.largest.clique; many = h.largest.many });
      most = λ K c. h.largest.most K c c.members;
    }

-- what was pulled, and drawn or too wide
module _ (g : Graph) (t : ℕ) (living living' taken taken' list chosen : List ℕ) (gone n : ℕ) (h : CoreIn g t living living' taken taken' gone) (size : n ≡ g.size) (items : list ≡ members (alive n living') n) (part : chosen ≡ list) where
  listed_is : chosen ≡ members (alive g.size living') g.size
  listed_is = part ∙ items ∙ ap (λ (i : ℕ). members (alive i living') i) size

  pub pull_wide : 256 < length chosen → Wide g t
  pull_wide l =
      let a = ap length listed_is ∙ length_members (alive g.size living') g.size ∙ count_same (alive g.size living') (survivors g (take gone taken')) g.size (λ c m. living_left g t living living' taken taken' gone h c) in
      record { taken = take gone taken'; left = core_left g t living living' taken taken' gone h; many = omega arith }

  pub pull_drawn : (q : Kernel) → length chosen ≤ 256 → Draws g chosen q → PulledIn g t list (take gone taken') q
  pull_drawn q l d =
      let few = d.size in
      record {
        left = core_left g t living living' taken taken' gone h;
        lists = subst (Lists (survivors g (take gone taken'))) (sym listed_is ∙ part) (left_listed g t living living' taken taken' gone h);
        draws = subst (λ xs. Draws g xs q) part d;
        few = omega arith;
      }

-- a buffer of 1,024 places suffices
pub order_dense : (g : Graph) (room : ℕ) (x : Refusal) → g.size < 1025 → room ≡ 1024 → OrderRefused g room x → (x ≡ TooDense) × Dense g
order_dense g room x s r (inl u) = let v = vertices_le g in absurd (omega (arith, u.1))
order_dense g room x s r (inr u) = (u.0, u.2)

pub pulled_same : (g : Graph) (t : ℕ) (chosen chosen' p p' : List ℕ) (q : Kernel) → chosen' ≡ chosen → p' ≡ p → PulledIn g t chosen p q → PulledIn g t chosen' p' q
pulled_same g t chosen chosen' p p' q e f h =
    subst (λ (xs : List ℕ). PulledIn g t xs p' q) (sym e) (subst (λ (ys : List ℕ). PulledIn g t chosen ys q) (sym f) h)
