use Rattle.std.proofs.Common.{◌≡◌, length, sym, refl, ◌∙◌, inl, inr, arith}
use Rattle.std.proofs.lemmas.List.{take_at}
use Rattle.std.proofs.lemmas.Result.{err_from_is_err_and}
use Rattle.sheets.proofs.Stocks.{unread_short, unread_memory, edges_fit, edges_are, read_into, never_refused}
use Rattle.sheets.proofs.loading.read.Goals as goal
use Rattle.sheets.proofs.loading.read.Goals.{After-lay_out, then-offsets-n-via-then-offsets-n, then-offsets-n-via-else-offsets-n+then-neighbours-count}

pub returns-then-offsets-n : goal.returns-then-offsets-n
returns-then-offsets-n c = (
  unread_short c.args.sheet.now c.in_ok-size.size.n c.in_ok-size.size.clashes (length c.args.offsets.now) (length c.args.neighbours.now) c.into.result c.in_ok-size.ensures
      (elim c.then-offsets-n.branch [ then-offsets-n-via-then-offsets-n w ↦ inl w.if-offsets-n.true | then-offsets-n-via-else-offsets-n+then-neighbours-count w ↦ inr w.if-neighbours-count.true ])
      c.into.ensures,
  refl,
  refl,
)

pub returns-in_err-edges : goal.returns-in_err-edges
returns-in_err-edges c =
    let p = err_from_is_err_and c.from_residual-in_err-edges.result c.from_residual-in_err-edges.ensures.1 in
    rw p.1 (
      unread_memory c.args.sheet.now c.in_ok-size.size.n c.in_ok-size.size.clashes (length c.args.offsets.now) (length c.args.neighbours.now) p.0 c.in_ok-size.ensures c.if-offsets-n.false c.if-neighbours-count.false p.2,
      refl,
      refl,
    )

pub returns-in_err-read_edges : goal.returns-in_err-read_edges
returns-in_err-read_edges c =
    let b = c.as_mut_slice.ensures.len in
    let m = c.in_ok-edges.ensures.len in
    absurd (edges_fit c.args.sheet.now c.in_ok-size.size.n c.in_ok-size.size.clashes _ c.in_err-read_edges.field-0.0 c.in_ok-size.ensures (omega arith) c.in_err-read_edges.ensures.0)

-- the edges that were read are those that the sheet states
same : (c : After-lay_out) → c.as_slice.result.now ≡ c.in_ok-size.ensures.edges
same c =
    let b = c.as_mut_slice.ensures.len in
    let m = c.in_ok-edges.ensures.len in
    let k = c.read_edges.auto.edges in
    let z : length c.read_edges.new.edges ≡ c.in_ok-size.size.clashes = omega arith in
    let e = edges_are c.args.sheet.now c.in_ok-size.size.n c.in_ok-size.size.clashes _ _ _ c.read_edges.new.edges c.in_ok-size.ensures c.in_ok-read_edges.ensures z in
    c.as_slice.ensures.value ∙ take_at c.read_edges.new.edges _ c.in_ok-edges.edges.len (z ∙ sym m) ∙ e

pub returns-in_err-lay_out : goal.returns-in_err-lay_out
returns-in_err-lay_out c =
    absurd (never_refused c.args.sheet.now c.in_ok-size.size.n c.in_ok-size.size.clashes c.args.offsets.now c.args.neighbours.now c.as_slice.result.now c.in_ok-size.ensures (same (goal.at.returns-in_err-lay_out c).After-lay_out) c.if-offsets-n.false c.if-neighbours-count.false c.in_err-lay_out.ensures)

pub returns : goal.returns
returns c =
    read_into c.args.sheet.now c.in_ok-size.size.n c.in_ok-size.size.clashes _ _ _ _ c.as_slice.result.now c.in_ok-size.ensures (same (goal.at.returns c).After-lay_out) c.if-offsets-n.false c.if-neighbours-count.false c.in_ok-lay_out.ensures
