-- Where a walk through the lines of a sheet stands.
use Rattle.std.proofs.Common.{◌≡◌, ℕ, ◌+◌, ◌-◌, ◌<◌, ◌≤◌, false, cond, eqb, ltb, List, [], ◌∷◌, ◌++◌, length, take, drop, set, Some, None, Option, sym, refl, ap, ◌∙◌, subst, arith, Bor}
use Rattle.std.proofs.lemmas.List.{length_push, length-append, length-set, take_more_set, drop-set-lt, drop-drop}
use Rattle.std.proofs.lemmas.Bool.{ne_eqb}
use Rattle.fields.specs.Parts.{parts, Cut}
use Rattle.graph.specs.declared.edge.Edge.{Edge}
use Rattle.grammar.specs.Lines.{field, Said, size, clash, remark, ended, wrong, says}
use Rattle.graph.specs.Edges.{edge, latest}
use Rattle.graph.specs.Refusals.{number}
use Rattle.grammar.specs.Sheet.{Outcome, Verdict, refused, states, fault, fine, judge, closed, turn, walk}
use Rattle.graph.proofs.Edges.{latest_push}
use Rattle.grammar.proofs.Steps.{walk_stop, walk_line, judged_fine, judged_refused}
use Rattle.std.specs.Option.{option_map}
use Rattle.lines.specs.declared.Line.{Line}
use Rattle.lines.specs.Kept.{line_of, field_of, shown_of, IsAt, told, Refused, IsFault, LineFault, Kept}
use Rattle.reading.specs.declared.Size.{Size}
use Rattle.reading.specs.declared.Walk.{Walk}
use Rattle.reading.specs.Read.{Ends, Filled, Walked}
use Rattle.lines.specs.declared.Fault.{Fault}
use Rattle.lines.specs.declared.Place.{Place}

-- behind the lines before `rest`, which stated `done` edges
pub record Going (n m : ℕ) (text rest : List ℕ) (at done : ℕ) (previous : Option Edge) (before after : List Edge) : Type 0 where
  pub edges : List Edge
  pub on : walk n m edges at (parts 10 rest) ≡ walk n m [] 2 (parts 10 text)
  pub count : length edges ≡ done
  pub last_is : latest edges ≡ previous
  pub place : at + length rest ≤ length text + 2
  pub later : 2 ≤ at
  pub few : done ≤ m
  pub long : length after ≡ length before
  pub filled : Filled before after edges

pub going_none : (n m : ℕ) (text : List ℕ) (before : List Edge) → Going n m text text 2 0 None before before
going_none n m text before =
    record { edges = []; on = refl; count = refl; last_is = refl; place = omega arith; later = omega arith; few = omega arith; long = refl; filled = λ l. (refl, refl) }

-- the line that comes next, and what it says
pub going_line : (n m : ℕ) (text rest : List ℕ) (at done : ℕ) (o : Option Edge) (before after : List Edge) (g : Going n m text rest at done o before after) (line after_line : List ℕ) (sd : Said) → Cut 10 rest line (Some after_line) → says false (parts 9 line) ≡ sd → walk n m [] 2 (parts 10 text) ≡ turn n m g.edges at (parts 9 line) sd (λ es. walk n m es (at + 1) (parts 10 after_line)) (parts 10 after_line)
going_line n m text rest at done o before after g line after_line sd c s =
    sym g.on ∙ walk_line n m g.edges at (parts 10 rest) line (parts 10 after_line) sd c.0 s

pub going_stop : (n m : ℕ) (text rest : List ℕ) (at done : ℕ) (o : Option Edge) (before after : List Edge) (front : List ℕ) → Going n m text rest at done o before after → Cut 10 rest front None → walk n m [] 2 (parts 10 text) ≡ fault 9 at 1 []
going_stop n m text rest at done o before after front g c = sym g.on ∙ walk_stop n m g.edges at (parts 10 rest) front c.0

pub shorter : (rest line after_line : List ℕ) → Cut 10 rest line (Some after_line) → length after_line + 1 ≤ length rest
shorter rest line after_line c = let a = ap length c.1 in let b = length-append line (10 ∷ after_line) in omega arith

pub going_remark : (n m : ℕ) (text rest : List ℕ) (at done : ℕ) (o : Option Edge) (before after : List Edge) (line after_line : List ℕ) → Going n m text rest at done o before after → Cut 10 rest line (Some after_line) → says false (parts 9 line) ≡ remark → Going n m text after_line (at + 1) done o before after
going_remark n m text rest at done o before after line after_line g c s =
    let z = shorter rest line after_line c in
    record {
      edges = g.edges;
      on = sym (going_line n m text rest at done o before after g line after_line remark c s);
      count = g.count;
      last_is = g.last_is;
      place = omega (arith, g.place);
      later = omega (arith, g.later);
      few = g.few;
      long = g.long;
      filled = g.filled;
    }

pub filled_more : (before after : List Edge) (es : List Edge) (e : Edge) → length after ≡ length before → Filled before after es → length es < length after → Filled before (set after (length es) e) (es ++ e ∷ [])
filled_more before after es e l f h r =
    let p = length_push es e in
    let q = f (omega arith) in
    let k : length es < length after = omega arith in (
      ap (λ i. take i (set after (length es) e)) p ∙ take_more_set after (length es) e k ∙ ap (λ xs. xs ++ e ∷ []) q.0,
      ap (λ i. drop i (set after (length es) e)) p ∙ drop-set-lt (length es + 1) after (length es) e (omega arith) ∙ next q.1 ∙ ap (λ i. drop i before) (sym p),
    )
  where
    next : drop (length es) after ≡ drop (length es) before → drop (length es + 1) after ≡ drop (length es + 1) before
    next q = sym (drop-drop 1 (length es) after) ∙ ap (drop 1) q ∙ drop-drop 1 (length es) before

pub filled_full : (before after : List Edge) (es : List Edge) (e : Edge) → length after ≡ length before → length after ≤ length es → Filled before after (es ++ e ∷ [])
filled_full before after es e l h r = let p = length_push es e in absurd (omega arith)

-- an edge is taken, and stands in the buffer if there is room
pub going_more : (n m : ℕ) (text rest : List ℕ) (at done : ℕ) (o : Option Edge) (before after : List Edge) (line after_line : List ℕ) (a b : ℕ) (e : Edge) (new : List Edge) (g : Going n m text rest at done o before after) → Cut 10 rest line (Some after_line) → says false (parts 9 line) ≡ clash a b → judge n m done o a b ≡ fine → e ≡ edge a b → done < m → length new ≡ length after → ((es : List Edge) → length es ≡ done → Filled before after es → Filled before new (es ++ e ∷ [])) → Going n m text after_line (at + 1) (done + 1) (Some e) before new
going_more n m text rest at done o before after line after_line a b e new g c s j i l k f =
    let z = shorter rest line after_line c in
    let v : judge n m (length g.edges) (latest g.edges) a b ≡ fine =
    ap (λ (x : ℕ). judge n m x (latest g.edges) a b) g.count ∙ ap (λ x. judge n m done x a b) g.last_is ∙ j in
    record {
      edges = g.edges ++ e ∷ [];
      on = ap (λ x. walk n m (g.edges ++ x ∷ []) (at + 1) (parts 10 after_line)) i
          ∙ sym (judged_fine at (parts 9 line) (judge n m (length g.edges) (latest g.edges) a b) (walk n m (g.edges ++ edge a b ∷ []) (at + 1) (parts 10 after_line)) v)
          ∙ sym (going_line n m text rest at done o before after g line after_line (clash a b) c s);
      count = length_push g.edges e ∙ ap (λ (x : ℕ). x + 1) g.count;
      last_is = latest_push g.edges e;
      place = omega (arith, g.place);
      later = omega (arith, g.later);
      few = omega arith;
      long = k ∙ g.long;
      filled = f g.edges g.count g.filled;
    }

-- a refused clash
pub going_refused : (n m : ℕ) (text rest : List ℕ) (at done : ℕ) (o : Option Edge) (before after : List Edge) (line after_line : List ℕ) (a b : ℕ) (f : Fault) → Going n m text rest at done o before after → Cut 10 rest line (Some after_line) → says false (parts 9 line) ≡ clash a b → Refused (judge n m done o a b) line at f → walk n m [] 2 (parts 10 text) ≡ told f
going_refused n m text rest at done o before after line after_line a b f g c s r =
    let v : judge n m (length g.edges) (latest g.edges) a b ≡ judge n m done o a b =
    ap (λ (x : ℕ). judge n m x (latest g.edges) a b) g.count ∙ ap (λ x. judge n m done x a b) g.last_is in
    let t = going_line n m text rest at done o before after g line after_line (clash a b) c s in
    let u = judged_refused at (parts 9 line) (judge n m (length g.edges) (latest g.edges) a b) (walk n m (g.edges ++ edge a b ∷ []) (at + 1) (parts 10 after_line)) _ _ (v ∙ r.verdict) in
    let x = r.line in let y = r.shown in cc

-- a line that breaks its form
pub going_wrong : (n m : ℕ) (text rest : List ℕ) (at done : ℕ) (o : Option Edge) (before after : List Edge) (line after_line : List ℕ) (f : Fault) → Going n m text rest at done o before after → Cut 10 rest line (Some after_line) → LineFault (eqb at 1) line at f → walk n m [] 2 (parts 10 text) ≡ told f
going_wrong n m text rest at done o before after line after_line f g c w =
    let l = g.later in
    let e : eqb at 1 ≡ false = ne_eqb at 1 (λ q. omega arith) in
    let t = going_line n m text rest at done o before after g line after_line (wrong (field_of f.place)) c (ap (λ b. says b (parts 9 line)) (sym e) ∙ w.says) in
    let x = w.fault_is.code in let y = w.fault_is.line in let z = w.fault_is.shown in cc

pub going_size : (n m : ℕ) (text rest : List ℕ) (at done : ℕ) (o : Option Edge) (before after : List Edge) (line after_line : List ℕ) (f : Fault) (a b : ℕ) → Going n m text rest at done o before after → Cut 10 rest line (Some after_line) → says false (parts 9 line) ≡ size a b → IsFault 9 at 1 (field (parts 9 line) 0) f → walk n m [] 2 (parts 10 text) ≡ told f
going_size n m text rest at done o before after line after_line f a b g c s w =
    let t = going_line n m text rest at done o before after g line after_line (size a b) c s in
    let x = w.code in let y = w.line in let z = w.shown in let u = w.field in cc

-- the end
pub going_end : (n m : ℕ) (text rest : List ℕ) (at done : ℕ) (o : Option Edge) (before after : List Edge) (line after_line : List ℕ) (answer : ℕ → List Edge → Outcome) (g : Going n m text rest at done o before after) → Cut 10 rest line (Some after_line) → says false (parts 9 line) ≡ ended → Ends n m line at done after_line answer → walk n m [] 2 (parts 10 text) ≡ answer n g.edges
going_end n m text rest at done o before after line after_line answer g c s e =
    let t = going_line n m text rest at done o before after g line after_line ended c s in
    t ∙ ap (λ (x : ℕ). cond (ltb x m) (fault 12 at 1 (field (parts 9 line) 0)) (closed n g.edges (at + 1) (parts 10 after_line))) g.count ∙ e g.edges g.count

pub going_all : (n m : ℕ) (text rest : List ℕ) (at done : ℕ) (o : Option Edge) (before after : List Edge) (line after_line : List ℕ) → Going n m text rest at done o before after → Cut 10 rest line (Some after_line) → says false (parts 9 line) ≡ ended → Ends n m line at done after_line (λ n es. states n es) → Walked (walk n m [] 2 (parts 10 text)) n before after done
going_all n m text rest at done o before after line after_line g c s e =
    record { edges = g.edges; states_them = going_end n m text rest at done o before after line after_line (λ n es. states n es) g c s e; count = g.count; filled = g.filled }

pub cut_some : (rest front : List ℕ) (o : Option (Bor (List ℕ))) (x : Bor (List ℕ)) → Cut 10 rest front (option_map (λ x. x.now) o) → o ≡ Some x → Cut 10 rest front (Some x.now)
cut_some rest front o x c e = subst (λ p. Cut 10 rest front (option_map (λ x. x.now) p)) e c

pub cut_none : (rest front : List ℕ) (o : Option (Bor (List ℕ))) → Cut 10 rest front (option_map (λ x. x.now) o) → o ≡ None → Cut 10 rest front None
cut_none rest front o c e = subst (λ p. Cut 10 rest front (option_map (λ x. x.now) p)) e c

-- what a later line keeps
pub kept_later : (at : ℕ) (text : List ℕ) (l k : Line) → 2 ≤ at → Kept (eqb at 1) text l → l ≡ k → Kept false text k
kept_later at text l k h w e =
    subst (Kept false text) e (subst (λ b. Kept b text l) (ne_eqb at 1 (λ q. omega arith)) w)

-- the same of a walk, which keeps the size
pub record Walking (z : Size) (text rest : List ℕ) (at : ℕ) (w : Walk) (before after : List Edge) : Type 0 where
  pub same : w.size ≡ z
  pub going : Going z.n z.clashes text rest at w.done w.previous before after

pub walks_on : (z : Size) (text rest : List ℕ) (at : ℕ) (before : List Edge) (w u : Walk) (after new : List Edge) → u ≡ w → new ≡ after → w.size ≡ z → Going z.n z.clashes text rest at w.done w.previous before after → Walking z text rest at u before new
walks_on z text rest at before w u after new e f h g =
    subst (λ v. Walking z text rest at v before new) (sym e) (subst (Walking z text rest at w before) (sym f) (record { same = h; going = g }))

-- the buffer behind an edge that is written where there is room
pub filled_then : (before after new : List Edge) (e : Edge) (done : ℕ) → length after ≡ length before → done < length after → new ≡ set after done e → (length new ≡ length after) × ((es : List Edge) → length es ≡ done → Filled before after es → Filled before new (es ++ e ∷ []))
filled_then before after new e done l h w = (
  ap length w ∙ length-set after done e,
  λ es c f. subst (λ v. Filled before v (es ++ e ∷ [])) (ap (λ (i : ℕ). set after i e) c ∙ sym w) (filled_more before after es e l f (omega arith)),
)

pub filled_else : (before after new : List Edge) (e : Edge) (done : ℕ) → length after ≡ length before → length after ≤ done → new ≡ after → (length new ≡ length after) × ((es : List Edge) → length es ≡ done → Filled before after es → Filled before new (es ++ e ∷ []))
filled_else before after new e done l h w =
    (ap length w, λ es c f. subst (λ v. Filled before v (es ++ e ∷ [])) (sym w) (filled_full before after es e l (omega arith)))

-- a refused clash, and its fault
pub refused_at : (v : Verdict) (text : List ℕ) (k x j : ℕ) (f : Fault) → v ≡ refused x j → number f.refusal ≡ x → line_of f.place ≡ k → field_of f.place ≡ j → shown_of f.place ≡ field (parts 9 text) (j - 1) → Refused v text k f
refused_at v text k x j f e c l i s =
    record {
      verdict = e ∙ ap (λ (y : ℕ). refused y j) (sym c) ∙ ap (refused (number f.refusal)) (sym i);
      line = l;
      shown = s ∙ ap (λ (y : ℕ). field (parts 9 text) (y - 1)) (sym i);
    }

pub placed : (k j : ℕ) (bytes : List ℕ) (o : Option Place) → IsAt k j bytes o → (line_of o ≡ k) × (field_of o ≡ j) × (shown_of o ≡ bytes)
placed k j bytes None h = absurd h
placed k j bytes (Some p) h = h
