-- What reading a sheet answers.
use Rattle.std.specs.Prelude.{◌≡◌, ℕ, ◌+◌, ◌^◌, ◌<◌, ◌≤◌, true, cond, List, [], length, take, drop, nat_lt}
use Rattle.fields.specs.Parts.{parts}
use Rattle.graph.specs.declared.edge.Edge.{Edge}
use Rattle.grammar.specs.Lines.{field}
use Rattle.grammar.specs.Sheet.{Outcome, states, fault, closed, walk, outcome, plain, written, Reads}
use Rattle.reading.specs.declared.Opened.{Opened}

-- what an end line gives behind any edges of which there are `done`
abbrev pub Ends : ℕ → ℕ → List ℕ → ℕ → ℕ → List ℕ → (ℕ → List Edge → Outcome) → Type 0
Ends n m text k done rest answer =
    (es : List Edge) → length es ≡ done → cond (nat_lt done m) (fault 12 k 1 (field (parts 9 text) 0)) (closed n es (k + 1) (parts 10 rest)) ≡ answer n es

-- where there is room for the edges, they stand in front of the buffer, and the rest is as it was
abbrev pub Filled : List Edge → List Edge → List Edge → Type 0
Filled before after es = length es ≤ length before → (take (length es) after ≡ es) × (drop (length es) after ≡ drop (length es) before)

pub record Walked (o : Outcome) (n : ℕ) (before after : List Edge) (done : ℕ) : Type 0 where
  pub edges : List Edge
  pub states_them : o ≡ states n edges
  pub count : length edges ≡ done
  pub filled : Filled before after edges

-- the sheet is well formed, and states n and this many edges; without remarks it is what is written of them
pub record Stated (s : List ℕ) (n m : ℕ) : Type 0 where
  pub edges : List Edge
  pub reads : Reads s n edges
  pub count : length edges ≡ m
  pub again : plain (parts 10 s) ≡ true → s ≡ written n edges

-- the sheet begins with a fair size line
pub record Begun (s : List ℕ) (o : Opened) : Type 0 where
  pub on : outcome s ≡ walk o.size.n o.size.clashes [] 2 (parts 10 o.rest.now)
  pub small : o.size.n ≤ 1024
  pub few : o.size.clashes ≤ 16384
  pub short : length o.rest.now + 2 < 2 ^ 64

-- the same, with the edges in the first m places of a buffer, and the rest of it as it was
pub record ReadInto (s : List ℕ) (n m : ℕ) (before after : List Edge) : Type 0 where
  pub room : m ≤ length before
  pub count : length (take m after) ≡ m
  pub reads : Reads s n (take m after)
  pub again : plain (parts 10 s) ≡ true → s ≡ written n (take m after)
  pub rest : drop m after ≡ drop m before
