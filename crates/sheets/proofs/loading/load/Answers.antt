use Rattle.std.proofs.Common.{◌≡◌, ◌+◌, length, sym, ◌∙◌, subst, arith}
use Rattle.std.proofs.lemmas.List.{take_at}
use Rattle.std.proofs.lemmas.Result.{err_from_is_err_and}
use Rattle.lines.specs.Kept.{Unplaced}
use Rattle.sheets.specs.Loaded.{Loaded}
use Rattle.sheets.proofs.Stocks.{load_memory, load_unread, loads, loads_memory, loaded_memory}
use Rattle.sheets.proofs.loading.load.Goals as goal
use Rattle.sheets.proofs.loading.load.Goals.{After-filled}

pub returns-in_err-offsets : goal.returns-in_err-offsets
returns-in_err-offsets c =
    let p = err_from_is_err_and c.from_residual-in_err-offsets.result c.from_residual-in_err-offsets.ensures.1 in
    rw p.1 (load_memory c.args.sheet.now c.in_ok-size.size.n c.in_ok-size.size.clashes p.0 c.in_ok-size.ensures p.2)

pub returns-in_err-neighbours : goal.returns-in_err-neighbours
returns-in_err-neighbours c =
    let p = err_from_is_err_and c.from_residual-in_err-neighbours.result c.from_residual-in_err-neighbours.ensures.1 in
    rw p.1 (load_memory c.args.sheet.now c.in_ok-size.size.n c.in_ok-size.size.clashes p.0 c.in_ok-size.ensures p.2)

pub returns-in_err-read : goal.returns-in_err-read
returns-in_err-read c =
    let a = c.as_mut_slice.ensures.len in
    let b = c.as_mut_slice-2.ensures.len in
    let m = c.in_ok-offsets.ensures.len in
    let n = c.in_ok-neighbours.ensures.len in
    let p = err_from_is_err_and c.from_residual-in_err-read.result c.from_residual-in_err-read.ensures.1 in
    rw (p.1, p.2) (load_unread c.args.sheet.now c.in_ok-size.size.n c.in_ok-size.size.clashes _ _ c.in_err-read.field-0.0 c.in_ok-size.ensures (omega arith) (omega arith) c.in_err-read.ensures.0)

-- what was read, as the list form takes it
whole : (c : After-filled) → Loaded c.args.sheet.now c.as_slice.result.now c.as_slice-2.result.now
whole c =
    let a = c.as_mut_slice.ensures.len in
    let b = c.as_mut_slice-2.ensures.len in
    let m = c.in_ok-offsets.ensures.len in
    let n = c.in_ok-neighbours.ensures.len in
    let k = c.read.auto.offsets in
    let l = c.read.auto.neighbours in
    let x : length c.read.new.offsets ≡ c.in_ok-size.size.n + 1 = omega arith in
    let y : length c.read.new.neighbours ≡ c.in_ok-size.size.clashes + c.in_ok-size.size.clashes = omega arith in
    loads c.args.sheet.now c.in_ok-size.size.n c.in_ok-size.size.clashes _ _ _ c.read.new.offsets _ c.read.new.neighbours _ _ c.in_ok-size.ensures c.in_ok-read.ensures x y
    (c.as_slice.ensures.value ∙ take_at c.read.new.offsets _ c.in_ok-offsets.offsets.len (x ∙ sym m))
    (c.as_slice-2.ensures.value ∙ take_at c.read.new.neighbours _ c.in_ok-neighbours.neighbours.len (y ∙ sym n))

pub returns-in_err-form : goal.returns-in_err-form
returns-in_err-form c =
    let w = whole (goal.at.returns-in_err-form c).After-filled in
    let x = loads_memory c.args.sheet.now _ _ c.in_err-form.field-0.0 w c.in_err-form.ensures in
    let p = err_from_is_err_and c.from_residual-in_err-form.result c.from_residual-in_err-form.ensures.1 in
    rw p.1 (loaded_memory c.args.sheet.now _ _ p.0 w (subst (λ r. Unplaced r p.0) x p.2))

pub returns : goal.returns
returns c =
    let w = whole (goal.at.returns c).After-filled in
    let e = c.in_ok-form.ensures in
    rw (e.0, e.1) w
