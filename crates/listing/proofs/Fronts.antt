-- The next of a list of rising edges.
use Rattle.std.proofs.Common.{◌≡◌, ℕ, ◌+◌, ◌<◌, true, List, [], ◌∷◌, ◌++◌, length, get_or, take, drop, Some, None, Option, sym, refl, ap, ◌∙◌, subst, inl, inr}
use Rattle.std.proofs.lemmas.List.{append_assoc, take-append-drop, take_more}
use Rattle.graph.specs.declared.edge.Edge.{Edge}
use Rattle.graph.proofs.Edges.{last_after, last_latest}
use Rattle.graph.specs.Edges.{Rising, latest, above}
use Rattle.listing.specs.Listing.{row_length}
use Rattle.listing.proofs.Steps.{rising_front, row_room}

rising_at : (n : ℕ) (o : Option Edge) (front : List Edge) (e : Edge) (rest : List Edge) → Rising n o (front ++ e ∷ rest) → (e.a < e.b) × (e.b < n) × (above (last_after o front) e ≡ true)
rising_at n o [] e rest r = (r.0, r.1, r.2)
rising_at n o (f ∷ front) e rest r = rising_at n (Some f) front e rest r.3

-- the edge at place i of rising edges
pub record NextEdge (n : ℕ) (es : List Edge) (i : ℕ) (e : Edge) : Type 0 where
  pub less : e.a < e.b
  pub below : e.b < n
  pub after : above (latest (take i es)) e ≡ true
  pub front : Rising n None (take i es)
  pub room_a : row_length (take i es) e.a < row_length es e.a
  pub room_b : row_length (take i es) e.b < row_length es e.b

split : (es : List Edge) (i : ℕ) (d : Edge) → i < length es → es ≡ take i es ++ get_or es i d ∷ drop (i + 1) es
split es i d l =
    sym (take-append-drop (i + 1) es) ∙ ap (λ xs. xs ++ drop (i + 1) es) (take_more es i d l) ∙ append_assoc (take i es) (get_or es i d ∷ []) (drop (i + 1) es)

pub next_edge : (n : ℕ) (es : List Edge) (i : ℕ) (d : Edge) → Rising n None es → i < length es → NextEdge n es i (get_or es i d)
next_edge n es i d r l =
    let e = get_or es i d in
    let s = split es i d l in
    let w = subst (Rising n None) s r in
    let h = rising_at n None (take i es) e (drop (i + 1) es) w in
    record {
      less = h.0;
      below = h.1;
      after = ap (λ o. above o e) (sym (last_latest (take i es))) ∙ h.2;
      front = rising_front n None (take i es) (e ∷ drop (i + 1) es) w;
      room_a = subst (λ xs. row_length (take i es) e.a < row_length xs e.a) (sym s) (row_room (take i es) (drop (i + 1) es) e e.a (inl refl));
      room_b = subst (λ xs. row_length (take i es) e.b < row_length xs e.b) (sym s) (row_room (take i es) (drop (i + 1) es) e e.b (inr refl));
    }
