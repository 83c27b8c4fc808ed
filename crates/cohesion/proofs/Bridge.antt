-- The largest supported set of places in the list of edges is the community.
use Rattle.std.proofs.Common.{◌≡◌, ℕ, ◌<◌, ◌≤◌, Bool, true, ◌&&◌, ltb, List, length, sym, ap, ◌∙◌, subst, inl, inr, arith}
use Rattle.std.proofs.lemmas.Bool.{and_parts, and_from, lt-ltb, ltb-true}
use Rattle.finite.specs.Supports.{Supported, Largest}
use Rattle.finite.proofs.Counts.{count_mono}
use Rattle.graph.specs.declared.edge.Edge.{Edge}
use Rattle.graph.specs.Graph.{Graph, clash}
use Rattle.graph.specs.Edges.{joins}
use Rattle.supports.specs.Levels.{Deepest}
use Rattle.cohesion.specs.Community.{Tight, CommunityOf, HasEdge, IsCommunityNumber}
use Rattle.cohesion.specs.Common.{edge_at, linked, shared, common}
use Rattle.cohesion.proofs.Places.{ends_cases, ends_own, joins_place, place_joins}
use Rattle.cohesion.proofs.Links.{Link, linked_true, linked_from, linked_both, shared_swap}

-- every place of a list of m
abbrev pub everywhere : ℕ → ℕ → Bool
everywhere m i = ltb i m

module _ (g : Graph) (list : List Edge) (all : (a b : ℕ) → joins list a b ≡ clash g a b) where
  link_clash : (s : ℕ → Bool) (u w : ℕ) → Link list s u w → clash g u w ≡ true
  link_clash s u w k = sym (all u w) ∙ place_joins list u w k.place k.within k.joined

  tight_each : (t : ℕ) (s : ℕ → Bool) → ((i : ℕ) → s i ≡ true → t ≤ common g.size list s i) → (u w : ℕ) → linked list s u w ≡ true → t ≤ shared g.size list s u w
  unfolding common
  tight_each t s f u w y =
      let k = linked_true list s u w y in
      let e = edge_at list k.place in
      let h = f k.place k.member in
      elim (ends_cases e u w k.joined) [
        | inl p ↦ subst (λ v. t ≤ shared g.size list s v w) (sym p.0) (subst (λ v. t ≤ shared g.size list s e.a v) (sym p.1) h)
        | inr p ↦ subst (λ v. t ≤ shared g.size list s v w) (sym p.0) (subst (λ v. t ≤ shared g.size list s e.b v) (sym p.1) (subst (λ v. t ≤ v) (shared_swap g.size list s e.a e.b) h))
      ]

  -- the places of a set of edges
  places : (ℕ → ℕ → Bool) → ℕ → Bool
  places d i = ltb i (length list) && d (edge_at list i).a (edge_at list i).b

  -- an edge of a tight set stands at a place of it
  placed : (d : ℕ → ℕ → Bool) (t : ℕ) → Tight g t d → (u w : ℕ) → d u w ≡ true → linked list (places d) u w ≡ true
  unfolding places
  placed d t h u w y =
      let r = joins_place list u w (all u w ∙ h.within u w y) in
      let e = edge_at list r.0 in
      linked_from list (places d) u w r.0 r.1 (and_from (ltb r.0 (length list)) (d e.a e.b) (lt-ltb r.0 (length list) r.1) (elim (ends_cases e u w r.2) [
        | inl p ↦ sym (ap (λ v. d v w) p.0 ∙ ap (d e.a) p.1) ∙ y
        | inr p ↦ h.both e.a e.b ∙ sym (ap (λ v. d v w) p.0 ∙ ap (d e.b) p.1) ∙ y
      ])) r.2

  placed_supported : (d : ℕ → ℕ → Bool) (t : ℕ) → Tight g t d → Supported (common g.size list) t (everywhere (length list)) (places d)
  unfolding places common shared
  placed_supported d t h =
      record {
        within = λ i y. (and_parts (ltb i (length list)) (d (edge_at list i).a (edge_at list i).b) y).0;
        each = λ i y. let e = edge_at list i in
            let z = (and_parts (ltb i (length list)) (d e.a e.b) y).1 in
            let k = h.each e.a e.b z in
            let m = count_mono (λ w. d e.a w && d e.b w) (λ w. linked list (places d) e.a w && linked list (places d) e.b w) g.size (λ w l q. let r = and_parts (d e.a w) (d e.b w) q in and_from (linked list (places d) e.a w) (linked list (places d) e.b w) (placed d t h e.a w r.0) (placed d t h e.b w r.1)) in
            omega arith;
      }

  pub largest_community : (t : ℕ) (s : ℕ → Bool) → Largest (common g.size list) t (everywhere (length list)) s → CommunityOf g t (linked list s)
  unfolding shared
  largest_community t s h =
      record {
        tight = record { within = λ a b y. link_clash s a b (linked_true list s a b y); both = linked_both list s; each = tight_each t s h.supported.each };
        covers = λ d k a b y. let l = linked_true list (places d) a b (placed d t k a b y) in
            linked_from list s a b l.place l.within (h.covers (places d) (placed_supported d t k) l.place l.member) l.joined;
      }

  place_edge : (s : ℕ → Bool) (i : ℕ) → i < length list → s i ≡ true → HasEdge (linked list s)
  place_edge s i l y =
      record { left = (edge_at list i).a; right = (edge_at list i).b; edge = linked_from list s (edge_at list i).a (edge_at list i).b i l y (ends_own (edge_at list i)) }

  -- peeled as deep as an edge stays, the edges give the community number
  pub deepest_number : (k : ℕ) (s : ℕ → Bool) → 0 < length list → Deepest (common g.size list) (everywhere (length list)) s k → IsCommunityNumber g k
  deepest_number k s pos d =
      let w = d.some 0 (lt-ltb 0 (length list) pos) in
      record {
        set = linked list s;
        community = largest_community k s d.level;
        has = place_edge s w.0 (ltb-true w.0 (length list) (d.level.supported.within w.0 w.1)) w.1;
        most = λ t e h q. let l = linked_true list (places e) q.left q.right (placed e t h q.left q.right q.edge) in
            d.most t (places e) (placed_supported e t h) l.place l.member;
      }

-- there is one community number
pub number_one : (g : Graph) (j k : ℕ) → IsCommunityNumber g j → IsCommunityNumber g k → j ≡ k
number_one g j k a b =
    omega (arith, b.most j a.set a.community.tight a.has, a.most k b.set b.community.tight b.has)

-- communities shrink as t grows
pub communities_shrink : (g : Graph) (t r : ℕ) (d e : ℕ → ℕ → Bool) → t ≤ r → CommunityOf g t d → CommunityOf g r e → (a b : ℕ) → e a b ≡ true → d a b ≡ true
communities_shrink g t r d e l h k =
    h.covers e (record { within = k.tight.within; both = k.tight.both; each = λ a b y. omega (arith, k.tight.each a b y) })
