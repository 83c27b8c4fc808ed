-- Hiding and showing, and the neighbours that are left.
use Rattle.std.proofs.Common.{◌≡◌, ℕ, zero, suc, ◌<◌, ◌≤◌, Bool, true, false, cond, not, ◌&&◌, ◌||◌, eqb, ltb, List, length, set, replicate, sym, refl, ap, ◌∙◌, inl, inr, arith}
use Rattle.std.proofs.lemmas.List.{get_or_past, get_or-set_same, get_or-set_other}
use Rattle.std.proofs.lemmas.Bool.{cases_Bool, and_left, cases_eq, eq-eqb, ne_eqb}
use Rattle.finite.proofs.Counts.{count_empty}
use Rattle.graph.specs.Graph.{Graph, Lawful, held, clash, degree}
use Rattle.graph.specs.Hiding.{marked, without, Hides, Shows}

-- the edges that are left
pub clash_without : (g : Graph) (h : ℕ → Bool) (a b : ℕ) → clash (without g h) a b ≡ (clash g a b && (not (h a) && not (h b)))
clash_without g h a b =
    split (ltb a g.size) (g.listed a) (ltb b g.size) (g.listed b) (g.joined a b) (h a) (h b)
  where
    split : (l p m q j x y : Bool) → ((l && (p && not x)) && ((m && (q && not y)) && j)) ≡ (((l && p) && ((m && q) && j)) && (not x && not y))
    split l p m q j x y =
        grind (arith, cases_Bool l, cases_Bool p, cases_Bool m, cases_Bool q, cases_Bool j, cases_Bool x, cases_Bool y)

pub held_without : (g : Graph) (h : ℕ → Bool) (c : ℕ) → held (without g h) c ≡ (held g c && not (h c))
held_without g h c = split (ltb c g.size) (g.listed c) (h c)
  where
    split : (l p x : Bool) → (l && (p && not x)) ≡ ((l && p) && not x)
    split l p x = grind (arith, cases_Bool l, cases_Bool p, cases_Bool x)

pub lawful_without : (g : Graph) (h : ℕ → Bool) → Lawful g → Lawful (without g h)
lawful_without g h w =
    record {
      small = w.small;
      both = λ a b. clash_without g h a b ∙ turned a b ∙ sym (clash_without g h b a);
      never = λ a. clash_without g h a a ∙ and_left (clash g a a) (not (h a) && not (h a)) (w.never a);
    }
  where
    swapped : (x y : Bool) → (x && y) ≡ (y && x)
    swapped x y = grind (arith, cases_Bool x, cases_Bool y)

    turned : (a b : ℕ) → (clash g a b && (not (h a) && not (h b))) ≡ (clash g b a && (not (h b) && not (h a)))
    turned a b = rw (w.both a b, swapped (not (h a)) (not (h b))) refl

-- of a vertex that is held, the neighbours that are left are those below that are not hidden
pub clash_held : (g : Graph) (h : ℕ → Bool) (c b : ℕ) → held (without g h) c ≡ true → clash (without g h) c b ≡ (clash g c b && not (h b))
clash_held g h c b e =
    split (ltb c g.size) (g.listed c) (ltb b g.size) (g.listed b) (g.joined c b) (h c) (h b) e
  where
    split : (l p m q j x y : Bool) → (l && (p && not x)) ≡ true → ((l && (p && not x)) && ((m && (q && not y)) && j)) ≡ (((l && p) && ((m && q) && j)) && not y)
    split l p m q j x y e =
        grind (arith, cases_Bool l, cases_Bool p, cases_Bool m, cases_Bool q, cases_Bool j, cases_Bool x, cases_Bool y)

pub clash_unheld : (g : Graph) (c b : ℕ) → held g c ≡ false → clash g c b ≡ false
clash_unheld g c b e = and_left (held g c) (held g b && g.joined c b) e

pub unheld_degree : (g : Graph) (c : ℕ) → false ≡ held g c → 0 ≡ degree g c
unfolding degree
unheld_degree g c e = sym (count_empty (clash g c) g.size (λ b _. clash_unheld g c b (sym e)))

-- hiding and showing one vertex
pub hides_one : (g : Graph) (h h' : ℕ → Bool) (c : ℕ) → ((k : ℕ) → h' k ≡ (h k || eqb k c)) → Hides (without g h) (without g h') c
hides_one g h h' c f =
    record {
      size = refl;
      holds = λ k. ap (λ (v : Bool). ltb k g.size && (g.listed k && not v)) (f k) ∙ one (ltb k g.size) (g.listed k) (h k) (eqb k c);
      clashes = λ a b. clash_without g h' a b ∙ rw (f a, f b) (two (clash g a b) (h a) (h b) (eqb a c) (eqb b c)) ∙ ap (λ (v : Bool). v && (not (eqb a c) && not (eqb b c))) (sym (clash_without g h a b));
    }
  where
    one : (l p x y : Bool) → (l && (p && not (x || y))) ≡ ((l && (p && not x)) && not y)
    one l p x y = grind (arith, cases_Bool l, cases_Bool p, cases_Bool x, cases_Bool y)

    two : (j x y u v : Bool) → (j && (not (x || u) && not (y || v))) ≡ ((j && (not x && not y)) && (not u && not v))
    two j x y u v = grind (arith, cases_Bool j, cases_Bool x, cases_Bool y, cases_Bool u, cases_Bool v)

pub shows_one : (g : Graph) (h h' : ℕ → Bool) (c : ℕ) → ((k : ℕ) → h' k ≡ (h k && not (eqb k c))) → Shows g (without g h) (without g h') c
shows_one g h h' c f =
    record {
      size = refl;
      holds = λ k. ap (λ (v : Bool). ltb k g.size && (g.listed k && not v)) (f k) ∙ one (ltb k g.size) (g.listed k) (h k) (eqb k c);
      clashes = λ a b. two (ltb a g.size) (g.listed a) (ltb b g.size) (g.listed b) (g.joined a b) (h' a) (h' b);
    }
  where
    one : (l p x y : Bool) → (l && (p && not (x && not y))) ≡ cond y (l && p) (l && (p && not x))
    one l p x y = grind (arith, cases_Bool l, cases_Bool p, cases_Bool x, cases_Bool y)

    two : (l p m q j x y : Bool) → ((l && (p && not x)) && ((m && (q && not y)) && j)) ≡ ((l && (p && not x)) && ((m && (q && not y)) && ((l && p) && ((m && q) && j))))
    two l p m q j x y =
        grind (arith, cases_Bool l, cases_Bool p, cases_Bool m, cases_Bool q, cases_Bool j, cases_Bool x, cases_Bool y)

-- a table of marks, none of them set
pub marked_none : (n k : ℕ) → marked (replicate n false) k ≡ false
marked_none zero k = refl
marked_none (suc n) zero = refl
marked_none (suc n) (suc k) = marked_none n k

pub marked_past : (marks : List Bool) (k : ℕ) → length marks ≤ k → marked marks k ≡ false
marked_past marks k l = get_or_past marks k false l

-- one more mark
pub marked_set : (marks : List Bool) (c : ℕ) → c < length marks → (k : ℕ) → marked (set marks c true) k ≡ (marked marks k || eqb k c)
marked_set marks c l k =
    elim (cases_eq k c) [
      | inl e ↦ rw (e, get_or-set_same marks c true false l, eq-eqb c c refl) (grind (arith, cases_Bool (marked marks c)))
      | inr ne ↦ rw (get_or-set_other marks c k true false ne, ne_eqb k c ne) (grind (arith, cases_Bool (marked marks k)))
    ]
