-- The degeneracy is the largest t with a t-core that is not empty.
use Rattle.std.proofs.Common.{◌≡◌, ℕ, ◌≤◌, false, ◌⊎◌, List, get_or, take, subst, inl, inr, arith}
use Rattle.std.proofs.lemmas.Bool.{cases_Bool}
use Rattle.graph.specs.Graph.{Graph, held}
use Rattle.graph.specs.Degeneracy.{IsDegeneracy, HasCore, IsLargestCore}
use Rattle.graph.proofs.Graphs.{held_below}
use Rattle.degeneracy.specs.Order.{survivors, met, IsOrder, IsPeak}
use Rattle.degeneracy.proofs.Orders.{survivors_held, peak_degeneracy, degeneracy_one}
use Rattle.degeneracy.proofs.Removal.{fewest_some, some_order}

-- what is left where the peak is met is a core
pub peak_core : (g : Graph) (p : List ℕ) (m : ℕ) → IsOrder g p → IsPeak g p m → HasCore g m ⊎ ((m ≡ 0) × ((c : ℕ) → held g c ≡ false))
unfolding met
peak_core g p m o k =
    elim k.reached [
      | inr r ↦ let q = take r.0 p in
          let n = o.each r.0 r.1 in
          inl (record {
            set = survivors g q;
            member = get_or p r.0 0;
            some = n.member;
            supported = record { within = survivors_held g q; each = λ c y. omega (arith, n.least c (held_below g c (survivors_held g q c y)) y, r.2) };
          })
      | inl z ↦ elim (fewest_some (held g) (λ _. 0) g.size) [
        | inr w ↦ inl (record {
          set = held g;
          member = w.0;
          some = w.1.member;
          supported = record { within = λ c y. y; each = λ c y. omega arith };
        })
        | inl none ↦ inr (z, λ c. elim (cases_Bool (held g c)) [ inl y ↦ none c (held_below g c y) | inr y ↦ y ])
      ]
    ]

-- no core has a higher number
pub core_most : (g : Graph) (d : ℕ) → IsDegeneracy g d → (t : ℕ) → HasCore g t → t ≤ d
core_most g d a t h =
    let v = a.sparse h.set h.supported.within h.member h.some in
    omega (arith, v.2, h.supported.each v.0 v.1)

largest_core_le : (g : Graph) (d e : ℕ) → IsLargestCore g d → IsLargestCore g e → d ≤ e
largest_core_le g d e a b =
    elim a.reached [ inl h ↦ b.most d h | inr z ↦ omega (arith, z.0) ]

pub degeneracy_core : (g : Graph) (d : ℕ) → IsDegeneracy g d → IsLargestCore g d
degeneracy_core g d a =
    let w = some_order g in
    let e = degeneracy_one g w.1 d (peak_degeneracy g w.0 w.1 w.2 w.3) a in
    record { reached = subst (λ m. HasCore g m ⊎ ((m ≡ 0) × ((c : ℕ) → held g c ≡ false))) e (peak_core g w.0 w.1 w.2 w.3); most = core_most g d a }

pub core_degeneracy : (g : Graph) (d : ℕ) → IsLargestCore g d → IsDegeneracy g d
core_degeneracy g d a =
    let w = some_order g in
    let m = w.1 in
    let k = peak_degeneracy g w.0 m w.2 w.3 in
    let b = degeneracy_core g m k in
    let e : m ≡ d = omega (arith, largest_core_le g d m a b, largest_core_le g m d b a) in
    subst (IsDegeneracy g) e k
