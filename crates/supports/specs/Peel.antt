-- Taking out items with little support.
use Rattle.std.specs.Prelude.{◌≡◌, ℕ, ◌+◌, ◌<◌, ◌≤◌, Bool, true, cond, not, ◌&&◌, List, length, take, drop, ◌==◌, ◌≢◌, nat_lt, slice_index}
use Rattle.finite.specs.Finite.{count, has}
use Rattle.finite.specs.Supports.{Largest}

-- what is left when the items of a list are taken out
unfoldable pub without : (ℕ → Bool) → List ℕ → ℕ → Bool
without s p c = s c && not (has p c)

-- what is left when one item is taken out
unfoldable pub but : (ℕ → Bool) → ℕ → ℕ → Bool
but s x c = s c && not (c == x)

-- x is a member whose support among the set is below k
pub record Weak (sup : (ℕ → Bool) → ℕ → ℕ) (k : ℕ) (s : ℕ → Bool) (x : ℕ) : Type 0 where
  pub member : s x ≡ true
  pub below : sup s x < k

-- the items of the list can be taken out in its order, each weak among what is then left
abbrev pub Peels : ((ℕ → Bool) → ℕ → ℕ) → ℕ → (ℕ → Bool) → List ℕ → Type 0
Peels sup k all p = (i : ℕ) → i < length p → Weak sup k (without all (take i p)) (slice_index p i)

-- the items below n whose byte is 1
unfoldable pub alive : ℕ → List ℕ → ℕ → Bool
alive n bytes c = nat_lt c n && slice_index bytes c == 1

-- the counts of the living items are their supports
abbrev pub Counted : ((ℕ → Bool) → ℕ → ℕ) → ℕ → List ℕ → List ℕ → Type 0
Counted sup n living counts =
    (c : ℕ) → alive n living c ≡ true → slice_index counts c ≡ sup (alive n living) c

-- the list has each member of s that loses one support when x is taken out of s, once
pub record Losers (sup : (ℕ → Bool) → ℕ → ℕ) (n : ℕ) (s : ℕ → Bool) (x : ℕ) (out : List ℕ) : Type 0 where
  pub many : count (has out) n ≡ length out
  pub member : (c : ℕ) → has out c ≡ true → s c ≡ true
  pub other : (c : ℕ) → has out c ≡ true → c ≢ x
  pub less : (c : ℕ) → s c ≡ true → (c ≢ x) → sup s c ≡ sup (but s x) c + cond (has out c) 1 0

-- peeling at k the n items of which those with the byte 1 live: the first len places of `taken` are the items taken out
pub record PeeledIn (sup : (ℕ → Bool) → ℕ → ℕ) (n k : ℕ) (living living' taken taken' : List ℕ) (len : ℕ) : Type 0 where
  pub fits : len ≤ n
  pub peels : Peels sup k (alive n living) (take len taken')
  pub cleared : (c : ℕ) → slice_index living' c ≡ cond (has (take len taken') c) 0 (slice_index living c)
  pub largest : Largest sup k (alive n living) (alive n living')
  pub rest : drop len taken' ≡ drop len taken
