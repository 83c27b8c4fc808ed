-- What walks over the neighbours of a vertex yield.
use Rattle.std.proofs.Common.{◌^◌, ◌+◌, ◌≡◌, ℕ, zero, suc, ◌<◌, Bool, true, false, cond, not, ◌&&◌, List, [], ◌∷◌, ◌++◌, length, filter, drop, Option, Some, None, refl, sym, ap, ◌∙◌, subst, subst₂, arith, length-drop, add-one}
use Rattle.std.specs.Iterator.{CallableAtEachTurn, Yields}
use Rattle.std.specs.List.{FoldsTo}
use Rattle.std.proofs.lemmas.List.Elements.{filter-append}
use Rattle.std.proofs.lemmas.Iterator.{YieldsList}
use Rattle.std.proofs.lemmas.Iterator.Consumers.{YieldsList-from_shown}
use Rattle.finite.specs.Finite.{count, members, nth}
use Rattle.finite.proofs.Members.{length_members, members_at, members_same}
use Rattle.graph.specs.Graph.{Graph, Lawful, held, clash, degree}
use Rattle.graph.specs.Hiding.{without}
use Rattle.graph.specs.Neighbours.{Steps, left}
use Rattle.graph.proofs.Graphs.{degree_le}
use Rattle.graph.proofs.Hiding.{clash_held}

drop_at : (xs : List ℕ) (i x : ℕ) → nth xs i ≡ Some x → drop i xs ≡ x ∷ drop (suc i) xs
drop_at [] i x e = let z : ◌≡◌ {A = ℕ} 0 1 = cc in absurd (omega arith)
drop_at (y ∷ xs) zero x e = let h : y ≡ x = cc in ap (λ v. v ∷ xs) h
drop_at (y ∷ xs) (suc i) x e = drop_at xs i x e

-- how a walk goes on, in a state that shows its graph, its vertex and how many it has passed
abbrev pub walks : {X : Type 0} → (X → Graph) → (X → ℕ) → (X → ℕ) → X → Option ℕ → X → Type 0
walks graph vertex passed s r t = (graph t ≡ graph s) × (vertex t ≡ vertex s) × Steps (graph s) (vertex s) (passed s) r (passed t)

-- it yields the neighbours
pub YieldsList-from_neighbours : {X : Type 0} {s : X} (graph : X → Graph) (vertex passed : X → ℕ) (g : Graph) (c : ℕ) → graph s ≡ g → vertex s ≡ c → passed s ≡ 0 → YieldsList (walks graph vertex passed) (λ b. b) s (members (clash g c) g.size)
unfolding degree
YieldsList-from_neighbours {X} {s} graph vertex passed g c e f z =
    let shown : X → List ℕ = λ t. drop (passed t) (members (clash (graph t) (vertex t)) (graph t).size) in
    let last : (t u : X) → walks graph vertex passed t None u → length (shown t) ≡ 0 = λ t u w.
    let l = length_members (clash (graph t) (vertex t)) (graph t).size in
    let d = length-drop (passed t) (members (clash (graph t) (vertex t)) (graph t).size) in
    let a = w.2.0 in
    omega (arith, d, l, a) in
    let more : (t : X) (b : ℕ) (u : X) → walks graph vertex passed t (Some b) u → shown t ≡ b ∷ shown u = λ t b u w.
    let r = w.2 in
    let n = members_at (clash (graph t) (vertex t)) (graph t).size b (passed t) r.0 r.1 r.2 in
    let d = drop_at (members (clash (graph t) (vertex t)) (graph t).size) (passed t) b n in
    rw (w.0, w.1, r.4, add-one) d in
    let y = YieldsList-from_shown (walks graph vertex passed) (λ b. b) shown last more s in
    let q : shown s ≡ members (clash g c) g.size = rw (e, f, z) refl in
    subst (YieldsList (walks graph vertex passed) (λ b. b) s) q y

-- those members that pass another test
pub filter_members : (p q : ℕ → Bool) (n : ℕ) → filter q (members p n) ≡ members (λ b. p b && q b) n
unfolding members
filter_members p q zero = refl
filter_members p q (suc n) =
    filter-append q (members p n) (cond (p n) (n ∷ []) []) ∙ rw (filter_members p q n) (ap (λ xs. members (λ b. p b && q b) n ++ xs) (one (p n)))
  where
    one : (y : Bool) → filter q (cond y (n ∷ []) []) ≡ cond (y && q n) (n ∷ []) []
    one true = refl
    one false = refl

-- the neighbours below that are not hidden are those that are left of a vertex that is held
pub members_left : (g : Graph) (h : ℕ → Bool) (c : ℕ) → true ≡ held (without g h) c → filter (λ b. not (h b)) (members (clash g c) g.size) ≡ members (clash (without g h) c) g.size
members_left g h c e =
    filter_members (clash g c) (λ b. not (h b)) g.size ∙ members_same (λ b. clash g c b && not (h b)) (clash (without g h) c) g.size (λ b _. sym (clash_held g h c b (sym e)))

-- how many are left to a walk is small
pub left_fits : (g : Graph) (c i : ℕ) → Lawful g → 0 + left g c i < 2 ^ 64
left_fits g c i l = omega (arith, degree_le g c, l.small)

-- a step of a walk in g at c, from i neighbours passed to j: it gives b
pub record Next (g : Graph) (c i b : ℕ) (after : Graph) (vertex j : ℕ) : Type 0 where
  pub here : (after ≡ g) × (vertex ≡ c)
  pub is : (b < g.size) × (clash g c b ≡ true) × (count (clash g c) b ≡ i)
  pub within : i < degree g c
  pub passed : j ≡ i + 1

-- of a walk that is in g at c
pub next_of : {g h k : Graph} {c v u i b j : ℕ} → (h ≡ g) × (v ≡ c) → (k ≡ h) × (u ≡ v) × ((b < h.size) × (clash h v b ≡ true) × (count (clash h v) b ≡ i) × (i < degree h v) × (j ≡ i + 1)) → Next g c i b k u j
next_of {g} {h} {k} {c} {v} {u} {i} {b} {j} e s =
    let r = s.2 in
    let t : (b < g.size) × (clash g c b ≡ true) × (count (clash g c) b ≡ i) × (i < degree g c) = subst₂ (λ (w : Graph) (x : ℕ). (b < w.size) × (clash w x b ≡ true) × (count (clash w x) b ≡ i) × (i < degree w x)) e.0 e.1 (r.0, r.1, r.2, r.3) in
    record { here = (s.0 ∙ e.0, s.1 ∙ e.1); is = (t.0, t.1, t.2); within = t.3; passed = r.4 }

-- where it ends, all are passed
pub last_of : {g h k : Graph} {c v u i j : ℕ} → (h ≡ g) × (v ≡ c) → (k ≡ h) × (u ≡ v) × ((degree h v ≡ i) × (j ≡ i)) → degree g c ≡ i
last_of {g} {h} {k} {c} {v} {u} {i} e s = subst₂ (λ (w : Graph) (x : ℕ). degree w x ≡ i) e.0 e.1 s.2.0

module _ {X : Type 0} (graph : X → Graph) (vertex passed : X → ℕ) where
  -- no step leaves the graph
  pub stays_there : (xs : List ℕ) (s t : X) → Yields (walks graph vertex passed) s xs t → graph t ≡ graph s
  stays_there [] s t y = ap graph (sym y)
  stays_there (x ∷ xs) s t y = stays_there xs y.0 t y.2 ∙ y.1.0

  -- a closure that no call changes may be called at each neighbour, if it may be at each number below the size
  pub serves_from_neighbours : {P : Type 0} {R : P → ℕ → P → Type 0} {Q : P → ℕ → Type 0} {s : X} {p : P} → ((x : ℕ) (q : P) → R p x q → q ≡ p) → ((x : ℕ) → x < (graph s).size → Q p x) → CallableAtEachTurn (walks graph vertex passed) R Q s p
  serves_from_neighbours {P} {R} {Q} {s} {p} stays h =
      record {
        at = λ xs t q x u y c e.
            let b : x < (graph s).size = subst (λ (w : Graph). x < w.size) (stays_there xs s t y) e.2.0 in
            subst (λ k. Q k x) (sym (unmoved xs q c)) (h x b);
      }
    where
      unmoved : (xs : List ℕ) (q : P) → FoldsTo R p xs q → q ≡ p
      unmoved [] q c = sym c
      unmoved (x ∷ xs) q c = unmoved xs q (subst (λ k. FoldsTo R k xs q) (stays x c.0 c.1) c.2)
