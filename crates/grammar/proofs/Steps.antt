-- One line of a walk through a sheet.
use Rattle.std.proofs.Common.{◌≡◌, ℕ, ◌+◌, ◌-◌, ◌<◌, ◌≤◌, true, false, cond, ◌&&◌, ltb, leb, ◌⊎◌, List, [], length, Option, refl, ap, inl, inr, arith}
use Rattle.std.proofs.lemmas.List.{nil_from_length}
use Rattle.std.proofs.lemmas.Bool.{lt-leb, le-leb, lt-ltb, le-ltb, and_from, and_left, and_right}
use Rattle.fields.specs.Parts.{Parts, last, more, parts}
use Rattle.graph.specs.declared.edge.Edge.{Edge}
use Rattle.grammar.specs.Lines.{field, Said, size, says}
use Rattle.graph.specs.Edges.{edge, above}
use Rattle.grammar.specs.Sheet.{Outcome, states, fault, Verdict, fine, refused, judge, judged, closed, turn, walk, opened, outcome}
use Rattle.grammar.proofs.Lines.{says_size}
use Rattle.grammar.proofs.Back.{row_bytes}
use Rattle.grammar.proofs.Forth.{row_line}

pub judge_many : (n m done : ℕ) (o : Option Edge) (a b : ℕ) → m ≤ done → judge n m done o a b ≡ refused 12 1
unfolding judge
judge_many n m done o a b l = rw (le-leb m done l) refl

pub judge_first : (n m done : ℕ) (o : Option Edge) (a b : ℕ) → done < m → n ≤ a → judge n m done o a b ≡ refused 1 2
unfolding judge
judge_first n m done o a b l h = rw (lt-leb m done l, le-leb n a h) refl

pub judge_second : (n m done : ℕ) (o : Option Edge) (a b : ℕ) → done < m → a < n → n ≤ b → judge n m done o a b ≡ refused 1 3
unfolding judge
judge_second n m done o a b l h k = rw (lt-leb m done l, lt-leb n a h, le-leb n b k) refl

pub judge_taken : (n m done : ℕ) (o : Option Edge) (a b : ℕ) → done < m → a < n → b < n → a < b → above o (edge a b) ≡ true → judge n m done o a b ≡ fine
unfolding judge
judge_taken n m done o a b l h k s u = rw (lt-leb m done l, lt-leb n a h, lt-leb n b k, and_from (ltb a b) (above o (edge a b)) (lt-ltb a b s) u) refl

pub judge_order : (n m done : ℕ) (o : Option Edge) (a b : ℕ) → done < m → a < n → b < n → (b ≤ a) ⊎ (above o (edge a b) ≡ false) → judge n m done o a b ≡ refused 10 1
unfolding judge
judge_order n m done o a b l h k w =
    let f : (ltb a b && above o (edge a b)) ≡ false = elim w [ inl x ↦ and_left (ltb a b) (above o (edge a b)) (le-ltb a b x) | inr x ↦ and_right (ltb a b) (above o (edge a b)) x ] in
    rw (lt-leb m done l, lt-leb n a h, lt-leb n b k, f) refl

pub ends_well : (n m done k : ℕ) (text rest : List ℕ) → m ≤ done → length rest ≤ 0 → (es : List Edge) → cond (ltb done m) (fault 12 k 1 (field (parts 9 text) 0)) (closed n es (k + 1) (parts 10 rest)) ≡ states n es
unfolding parts
ends_well n m done k text rest l z es =
    let e = nil_from_length rest (omega arith) in rw (e, le-ltb done m l) refl

-- the steps of a walk
pub walk_stop : (n m : ℕ) (es : List Edge) (k : ℕ) (p : Parts) (f : List ℕ) → p ≡ last f → walk n m es k p ≡ fault 9 k 1 []
unfolding walk
walk_stop n m es k p f e = rw e refl

pub walk_line : (n m : ℕ) (es : List Edge) (k : ℕ) (p : Parts) (line : List ℕ) (rest : Parts) (sd : Said) → p ≡ more line rest → says false (parts 9 line) ≡ sd → walk n m es k p ≡ turn n m es k (parts 9 line) sd (λ done. walk n m done (k + 1) rest) rest
unfolding walk
walk_line n m es k p line rest sd e s = rw (e, s) refl

pub judged_fine : (k : ℕ) (p : Parts) (v : Verdict) (o : Outcome) → v ≡ fine → judged k p v o ≡ o
judged_fine k p v o e = ap (λ w. judged k p w o) e

pub judged_refused : (k : ℕ) (p : Parts) (v : Verdict) (o : Outcome) (x j : ℕ) → v ≡ refused x j → judged k p v o ≡ fault x k j (field p (j - 1))
judged_refused k p v o x j e = ap (λ w. judged k p w o) e

-- the first line
pub open_stop : (s f : List ℕ) → parts 10 s ≡ last f → outcome s ≡ fault 9 1 1 []
unfolding outcome
open_stop s f e = rw e refl

pub open_line : (s line : List ℕ) (rest : Parts) (sd : Said) → parts 10 s ≡ more line rest → says true (parts 9 line) ≡ sd → outcome s ≡ opened (parts 9 line) sd rest
unfolding outcome
open_line s line rest sd e h = rw (e, h) refl

pub opened_large : (p rest : Parts) (n m : ℕ) → (1024 < n) ⊎ (16384 < m) → opened p (size n m) rest ≡ fault 11 1 1 (field p 0)
opened_large p rest n m w =
    let f : (leb n 1024 && leb m 16384) ≡ false = elim w [ inl x ↦ and_left (leb n 1024) (leb m 16384) (lt-leb n 1024 x) | inr x ↦ and_right (leb n 1024) (leb m 16384) (lt-leb m 16384 x) ] in
    rw f refl

pub opened_fair : (p rest : Parts) (n m : ℕ) → n ≤ 1024 → m ≤ 16384 → opened p (size n m) rest ≡ walk n m [] 2 rest
opened_fair p rest n m l h = rw (le-leb n 1024 l, le-leb m 16384 h) refl

-- a size line is not short
pub size_long : (line : List ℕ) (n m : ℕ) → says true (parts 9 line) ≡ size n m → 2 ≤ length line
unfolding row_line
size_long line n m e =
    let h = ap length (row_bytes line 115 n m (says_size (parts 9 line) n m e).0) in omega arith
