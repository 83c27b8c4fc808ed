-- The first line of a sheet, and the whole.
use Rattle.std.proofs.Common.{◌≡◌, ℕ, ◌^◌, ◌<◌, ◌≤◌, true, ◌⊎◌, List, [], ◌∷◌, length, take, drop, Some, None, sym, refl, ap, ◌∙◌, subst, arith}
use Rattle.std.proofs.lemmas.List.{length-append}
use Rattle.fields.specs.Parts.{parts, Cut}
use Rattle.graph.specs.declared.edge.Edge.{Edge}
use Rattle.grammar.specs.Lines.{field, Said, size, clash, remark, ended, wrong, says}
use Rattle.grammar.specs.Sheet.{Outcome, states, fault, walk, opened, outcome, written, Reads}
use Rattle.grammar.proofs.Back.{states_both}
use Rattle.grammar.proofs.Steps.{open_stop, open_line, opened_large, opened_fair, size_long}
use Rattle.lines.specs.Kept.{field_of, told, IsFault, Kept, LineFault}
use Rattle.reading.specs.Read.{Walked, Stated, Begun, ReadInto}
use Rattle.lines.specs.declared.Fault.{Fault}
use Rattle.lines.specs.declared.Figure.{Figure}
use Rattle.lines.specs.declared.Line.{Line}
use Rattle.lines.specs.declared.Line.TheVariants.{Size, Clash, Remark, End}
use Rattle.reading.specs.declared.Opened.{Opened}

pub opens_not : (s front : List ℕ) (f : Fault) → Cut 10 s front None → told f ≡ fault 9 1 1 [] → outcome s ≡ told f
opens_not s front f c e = open_stop s front c.0 ∙ sym e

pub opens_wrong : (s line rest : List ℕ) (f : Fault) → Cut 10 s line (Some rest) → LineFault true line 1 f → outcome s ≡ told f
opens_wrong s line rest f c w =
    let t = open_line s line (parts 10 rest) (wrong (field_of f.place)) c.0 w.says in
    let x = w.fault_is.code in let y = w.fault_is.line in let z = w.fault_is.shown in cc

pub opens_misplaced : (s line rest : List ℕ) (f : Fault) (sd : Said) → Cut 10 s line (Some rest) → says true (parts 9 line) ≡ sd → IsFault 9 1 1 (field (parts 9 line) 0) f → opened (parts 9 line) sd (parts 10 rest) ≡ fault 9 1 1 (field (parts 9 line) 0) → outcome s ≡ told f
opens_misplaced s line rest f sd c e w o =
    let t = open_line s line (parts 10 rest) sd c.0 e in
    let x = w.code in let y = w.line in let z = w.shown in let u = w.field in cc

pub opens_large : (s line rest : List ℕ) (f : Fault) (n m : ℕ) → Cut 10 s line (Some rest) → says true (parts 9 line) ≡ size n m → (1024 < n) ⊎ (16384 < m) → IsFault 11 1 1 (field (parts 9 line) 0) f → outcome s ≡ told f
opens_large s line rest f n m c e w q =
    let t = open_line s line (parts 10 rest) (size n m) c.0 e ∙ opened_large (parts 9 line) (parts 10 rest) n m w in
    let x = q.code in let y = q.line in let z = q.shown in let u = q.field in cc

-- any line but a size line
pub opens_other : (s line rest : List ℕ) (f : Fault) (l : Line) → Cut 10 s line (Some rest) → Kept true line l → ((n m : Figure) → l ≡ Size n m → ⊥) → IsFault 9 1 1 (field (parts 9 line) 0) f → outcome s ≡ told f
opens_other s line rest f (Size n m) c k h w = absurd (h n m refl)
opens_other s line rest f (Clash a b) c k h w = opens_misplaced s line rest f (clash a.value b.value) c k.0 w refl
opens_other s line rest f (Remark t) c k h w = opens_misplaced s line rest f remark c k.0 w refl
opens_other s line rest f End c k h w = opens_misplaced s line rest f ended c k w refl

pub opens : (s line : List ℕ) (o : Opened) → Cut 10 s line (Some o.rest.now) → says true (parts 9 line) ≡ size o.size.n o.size.clashes → o.size.n ≤ 1024 → o.size.clashes ≤ 16384 → length s < 2 ^ 64 → Begun s o
opens s line o c e l h k =
    let a = ap length c.1 in let b = length-append line (10 ∷ o.rest.now) in let d = size_long line o.size.n o.size.clashes e in
    record {
      on = open_line s line (parts 10 o.rest.now) (size o.size.n o.size.clashes) c.0 e ∙ opened_fair (parts 9 line) (parts 10 o.rest.now) o.size.n o.size.clashes l h;
      small = l;
      few = h;
      short = omega arith;
    }

pub stated : (s : List ℕ) (o : Opened) (before after : List Edge) (d : ℕ) → Begun s o → Walked (walk o.size.n o.size.clashes [] 2 (parts 10 o.rest.now)) o.size.n before after d → Stated s o.size.n d
stated s o before after d b w =
    let r = states_both s o.size.n w.edges (b.on ∙ w.states_them) in
    record { edges = w.edges; reads = r.0; count = w.count; again = r.1 }

pub same_edges : (o : Outcome) (n m : ℕ) (es fs : List Edge) → o ≡ states n es → o ≡ states m fs → es ≡ fs
same_edges o n m es fs a b = cc

pub read_into : (s : List ℕ) (o : Opened) (none still before after : List Edge) (d e : ℕ) → Begun s o → Walked (walk o.size.n o.size.clashes [] 2 (parts 10 o.rest.now)) o.size.n none still d → Walked (walk o.size.n o.size.clashes [] 2 (parts 10 o.rest.now)) o.size.n before after e → d ≤ length before → ReadInto s o.size.n e before after
read_into s o none still before after d e b v w l =
    let q = same_edges (walk o.size.n o.size.clashes [] 2 (parts 10 o.rest.now)) o.size.n o.size.n v.edges w.edges v.states_them w.states_them in
    let x = v.count in let y = w.count in let z = ap length q in
    let r = states_both s o.size.n w.edges (b.on ∙ w.states_them) in
    let f = w.filled (omega arith) in
    let t : take e after ≡ w.edges = ap (λ (i : ℕ). take i after) (sym y) ∙ f.0 in
    record {
      room = omega arith;
      count = ap length t ∙ y;
      reads = subst (Reads s o.size.n) (sym t) r.0;
      again = λ p. r.1 p ∙ ap (written o.size.n) (sym t);
      rest = ap (λ (i : ℕ). drop i after) (sym y) ∙ f.1 ∙ ap (λ (i : ℕ). drop i before) y;
    }

pub never_both : (o : Outcome) (n : ℕ) (es : List Edge) (f : Fault) → o ≡ states n es → o ≡ told f → ⊥
never_both o n es f a b = let z : ◌≡◌ {A = ℕ} 0 1 = cc in omega arith
