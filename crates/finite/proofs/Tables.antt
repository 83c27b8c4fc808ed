-- What a table holds that a function of the place makes.
use Rattle.std.proofs.Common.{◌≡◌, ℕ, zero, suc, ◌+◌, ◌-◌, ◌<◌, ◌≤◌, ltb, cond, List, ◌++◌, length, get_or, take, drop, replicate, sym, ap, subst, ◌∙◌, inl, inr, arith}
use Rattle.std.proofs.lemmas.List.{length-replicate, length-take-le, get_or-replicate, get_or_append_left, get_or-append_right, get_or-drop}
use Rattle.std.proofs.lemmas.Bool.{cases_eq, cases_lt, lt-ltb, le-ltb}
use Rattle.std.specs.Array.{IsFromFnResultFrom}
use denote.Param.Members.{Mut, Called}

-- at each place what the function gives there, if no call changes it
pub made_at : {F B : Type 0} (g : Mut F (ℕ × Unit {0}) B) (f : F) (h : ℕ → B) (ys : List B) (n i : ℕ) → IsFromFnResultFrom g f ys i n → ((x : ℕ) (y : B) (q : F) → Called g f (x, tt) y q → (q ≡ f) × (y ≡ h x)) → (k : ℕ) → i ≤ k → k < i + n → (d : B) → get_or ys k d ≡ h k
made_at g f h ys zero i r w k a b d = absurd (omega arith)
made_at {F} {B} g f h ys (suc n) i r w k a b d =
    let t = w i r.1 r.0 r.3 in
    elim (cases_eq k i) [
      | inl e ↦ subst (λ (j : ℕ). get_or ys j d ≡ h j) (sym e) (r.2.1 d ∙ t.1)
      | inr ne ↦ made_at g f h ys n (i + 1) (subst (λ (q : F). IsFromFnResultFrom g q ys (i + 1) n) t.0 r.4) w k (omega arith) (omega arith) d
    ]

-- where the first n places are filled with v
pub filled_at : (front ys : List ℕ) (n v k : ℕ) → n ≤ length ys → front ≡ replicate (length (take n ys)) v → get_or (front ++ drop n ys) k 0 ≡ cond (ltb k n) v (get_or ys k 0)
filled_at front ys n v k l e =
    let h : front ≡ replicate n v = e ∙ ap (λ m. replicate m v) (length-take-le n ys l) in
    let m : length front ≡ n = ap length h ∙ length-replicate n v in
    elim (cases_lt k n) [
      | inl a ↦ rw (lt-ltb k n a) (get_or_append_left front (drop n ys) 0 k (omega arith) ∙ ap (λ xs. get_or xs k 0) h ∙ get_or-replicate n k v 0 a)
      | inr b ↦ rw (le-ltb k n b) (get_or-append_right front (drop n ys) n k 0 m b ∙ get_or-drop n ys (k - n) 0 ∙ ap (λ i. get_or ys i 0) (omega arith))
    ]
