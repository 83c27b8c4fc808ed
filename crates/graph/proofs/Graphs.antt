use Rattle.std.proofs.Common.{◌≡◌, ℕ, ◌+◌, ◌<◌, ◌≤◌, Bool, true, false, ◌&&◌, ltb, Some, None, sym, ap, ◌∙◌, inl, inr, arith}
use Rattle.std.proofs.lemmas.Bool.{cases_Bool, cases_eq, and_parts, and_from, and_left, and_right, ltb-true}
use Rattle.finite.specs.Finite.{count, members, nth}
use Rattle.finite.proofs.Counts.{count_le, count_mono, count_same, count_less, count_pos}
use Rattle.finite.proofs.Members.{count_rise, members_at, members_past}
use Rattle.graph.specs.Graph.{Graph, Ranked, held, clash, inside, degree, vertices}

pub held_below : (g : Graph) (c : ℕ) → held g c ≡ true → c < g.size
held_below g c e = ltb-true c g.size (and_parts (ltb c g.size) (g.listed c) e).0

pub clash_left : (g : Graph) (a b : ℕ) → clash g a b ≡ true → held g a ≡ true
clash_left g a b e = (and_parts (held g a) (held g b && g.joined a b) e).0

pub clash_right : (g : Graph) (a b : ℕ) → clash g a b ≡ true → held g b ≡ true
clash_right g a b e =
    (and_parts (held g b) (g.joined a b) (and_parts (held g a) (held g b && g.joined a b) e).1).0

pub inside_mono : (g : Graph) (s t : ℕ → Bool) (c : ℕ) → ((b : ℕ) → s b ≡ true → t b ≡ true) → inside g s c ≤ inside g t c
unfolding inside
inside_mono g s t c f =
    count_mono (λ b. s b && clash g c b) (λ b. t b && clash g c b) g.size (λ b l e. let h = and_parts (s b) (clash g c b) e in and_from (t b) (clash g c b) (f b h.0) h.1)

pub inside_same : (g : Graph) (s t : ℕ → Bool) (c : ℕ) → ((b : ℕ) → s b ≡ t b) → inside g s c ≡ inside g t c
unfolding inside
inside_same g s t c f =
    count_same (λ b. s b && clash g c b) (λ b. t b && clash g c b) g.size (λ b l. ap (λ (v : Bool). v && clash g c b) (f b))

pub inside_le : (g : Graph) (s : ℕ → Bool) (c : ℕ) → inside g s c ≤ g.size
unfolding inside
inside_le g s c = count_le (λ b. s b && clash g c b) g.size

pub inside_held : (g : Graph) (c : ℕ) → inside g (held g) c ≡ degree g c
unfolding inside degree
inside_held g c =
    count_same (λ b. held g b && clash g c b) (clash g c) g.size (λ b l. elim (cases_Bool (clash g c b)) [ inl y ↦ and_from (held g b) (clash g c b) (clash_right g c b y) y ∙ sym y | inr y ↦ and_right (held g b) (clash g c b) y ∙ sym y ])

-- x leaves the set: its neighbours have one fewer
pub inside_less_yes : (g : Graph) (s t : ℕ → Bool) (x c : ℕ) → s x ≡ true → t x ≡ false → ((b : ℕ) → (b ≡ x → ⊥) → s b ≡ t b) → clash g c x ≡ true → inside g s c ≡ inside g t c + 1
unfolding inside
inside_less_yes g s t x c y z f e =
    count_less (λ b. s b && clash g c b) (λ b. t b && clash g c b) x g.size (held_below g x (clash_right g c x e)) (and_from (s x) (clash g c x) y e) (and_left (t x) (clash g c x) z) (λ b ne. ap (λ (v : Bool). v && clash g c b) (f b ne))

pub inside_less_no : (g : Graph) (s t : ℕ → Bool) (x c : ℕ) → ((b : ℕ) → (b ≡ x → ⊥) → s b ≡ t b) → clash g c x ≡ false → inside g s c ≡ inside g t c
unfolding inside
inside_less_no g s t x c f e =
    count_same (λ b. s b && clash g c b) (λ b. t b && clash g c b) g.size (λ b l. elim (cases_eq b x) [ inl i ↦ let h : clash g c b ≡ false = ap (clash g c) i ∙ e in and_right (s b) (clash g c b) h ∙ sym (and_right (t b) (clash g c b) h) | inr ne ↦ ap (λ (v : Bool). v && clash g c b) (f b ne) ])

pub inside_pos : (g : Graph) (s : ℕ → Bool) (x c : ℕ) → s x ≡ true → clash g c x ≡ true → 0 < inside g s c
unfolding inside
inside_pos g s x c y e =
    count_pos (λ b. s b && clash g c b) g.size x (held_below g x (clash_right g c x e)) (and_from (s x) (clash g c x) y e)

-- the neighbour of each rank
pub ranked_listed : (g : Graph) (c i b : ℕ) → Ranked g c i b → Some b ≡ nth (members (clash g c) g.size) i
ranked_listed g c i b r = sym (members_at (clash g c) g.size b i r.within r.joined r.rank)

pub degree_past : (g : Graph) (c i : ℕ) → degree g c ≤ i → None ≡ nth (members (clash g c) g.size) i
unfolding degree
degree_past g c i l = sym (members_past (clash g c) g.size i l)

pub degree_le : (g : Graph) (c : ℕ) → degree g c ≤ g.size
unfolding degree
degree_le g c = count_le (clash g c) g.size

pub vertices_le : (g : Graph) → vertices g ≤ g.size
unfolding vertices
vertices_le g = count_le (held g) g.size

-- a neighbour's rank is below the degree
pub rank_below : (g : Graph) (c i b : ℕ) → (b < g.size) × (clash g c b ≡ true) × (count (clash g c) b ≡ i) → i < degree g c
unfolding degree
rank_below g c i b r = omega (arith, r.2, count_rise (clash g c) b g.size r.0 r.1)
