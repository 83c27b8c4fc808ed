-- Colouring what is left, and the whole graph.
use Rattle.std.proofs.Common.{◌≡◌, ℕ, zero, suc, ◌+◌, ◌-◌, ◌<◌, ◌≤◌, true, ◌⊎◌, List, [], length, get_or, take, sym, ap, ◌∙◌, subst, inl, inr, arith}
use Rattle.std.proofs.lemmas.List.{take_all}
use Rattle.std.proofs.lemmas.Bool.{both_ways}
use Rattle.graph.specs.Graph.{Graph, Lawful, held, inside}
use Rattle.graph.specs.Colourings.{Proper, Coloured, ColourableIn, Colourable, used}
use Rattle.degeneracy.specs.Order.{survivors}
use Rattle.degeneracy.proofs.Orders.{survivors_held, survivors_none}
use Rattle.degeneracy.proofs.Plans.{gone_after, lives_before}
use Rattle.colourings.proofs.Coloured.{coloured_fewer, coloured_proper, coloured_same, coloured_add, painted, painted_at, painted_off, free_colour}
use Rattle.colourings.proofs.Used.{used_most, used_exactly, clique_used}
use Rattle.peels.specs.Peels.{Peeled, CoreLeft, CliqueNumber}
use Rattle.peels.proofs.Lives.{lives_more}
use Rattle.peels.proofs.Renumber.{used_above}

-- one step back
put_one : (g : Graph) (p : List ℕ) (k i : ℕ) → Lawful g → i < length p → inside g (survivors g (take i p)) (get_or p i 0) < k → ColourableIn g (survivors g (take (i + 1) p)) k → ColourableIn g (survivors g (take i p)) k
put_one g p k i lw l few w =
    let x = get_or p i 0 in
    let s = survivors g (take i p) in
    let t = survivors g (take (i + 1) p) in
    let col = w.0 in
    let d = free_colour g s k col x few in
    let new = painted col x d.0 in
    let at = painted_at col x d.0 in
    let same : (c : ℕ) → t c ≡ true → col c ≡ new c = λ c y. sym (painted_off col x d.0 c (λ e. both_ways (t c) (ap t e ∙ gone_after g p i (i + 1) (omega arith) (omega arith)) y)) in
    (new, coloured_add g s t k new x lw (λ c ne y. sym (lives_more g p i c l ne) ∙ y) (omega (arith, d.1)) (omega (arith, d.2)) (λ b y e q. d.3 b (lives_before g p i (i + 1) b (omega arith) y) (w.1.low b y) e (same b y ∙ q ∙ at)) (coloured_same g t k col new same w.1))

-- all the way back
put_all : (g : Graph) (p : List ℕ) (t k : ℕ) → Lawful g → Peeled g t p → t ≤ k → (m i : ℕ) → i + m ≡ length p → ColourableIn g (survivors g p) k → ColourableIn g (survivors g (take i p)) k
put_all g p t k lw h l zero i e w = subst (λ v. ColourableIn g (survivors g v) k) (sym (take_all i p (omega arith))) w
put_all g p t k lw h l (suc m) i e w =
    put_one g p k i lw (omega arith) (let f = h.few i (omega arith) in omega arith) (put_all g p t k lw h l m (i + 1) (omega arith) w)

pub kernel_enough : (g : Graph) (p : List ℕ) (t k : ℕ) → Lawful g → Peeled g t p → t ≤ k → ColourableIn g (survivors g p) k → Colourable g k
kernel_enough g p t k lw h l w =
    let r = put_all g p t k lw h l (length p) 0 (omega arith) w in
    (r.0, coloured_fewer g (held g) (survivors g []) k r.0 (λ c y. survivors_none g c ∙ y) r.1)

pub kernel_needed : (g : Graph) (p : List ℕ) (k : ℕ) → Colourable g k → ColourableIn g (survivors g p) k
kernel_needed g p k w = (w.0, coloured_fewer g (survivors g p) (held g) k w.0 (survivors_held g p) w.1)

-- the first number of colours that suffices
pub least_colours : (g : Graph) (b k : ℕ) (p : List ℕ) (col : ℕ → ℕ) → Lawful g → CliqueNumber g b → CoreLeft g b p → b ≤ k → Coloured g k col → (k ≡ b) ⊎ (ColourableIn g (survivors g p) (k - 1) → ⊥) → (used g col ≡ k) × ((new : ℕ → ℕ) → Proper g new → k ≤ used g new)
least_colours g b k p col lw cl h l w (inl e) =
    let need : (new : ℕ → ℕ) → Proper g new → k ≤ used g new = λ new q. (let m = clique_used g cl.reached.0 b new cl.reached.1 q in omega arith) in
    (omega (arith, used_most g k col w, need col (coloured_proper g k col w)), need)
least_colours g b k p col lw cl h l w (inr n) =
    let no-fewer : Colourable g (k - 1) → ⊥ = λ v. n (kernel_needed g p (k - 1) v) in
    (used_exactly g k col w no-fewer, λ new q. (let m = used_above g (k - 1) new no-fewer q in omega arith))
