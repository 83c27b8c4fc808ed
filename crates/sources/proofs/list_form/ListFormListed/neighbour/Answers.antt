use Rattle.std.proofs.Common.{◌≡◌, ◌+◌, ◌<◌, ◌≤◌, length, get_or, vec_items, sym, ap, ◌∙◌, arith}
use Rattle.std.proofs.lemmas.Bool.{ltb-true, ltb-false}
use Rattle.sources.specs.Row.{row_of}
use Rattle.rows.specs.Rows.{listed}
use Rattle.graph.proofs.Graphs.{ranked_listed, degree_past}
use Rattle.rows.proofs.Lawful.{row_degree, row_ranked, past_degree}
use Rattle.rows.proofs.Props.{sound_of}
use Rattle.sources.proofs.Found.{row_read, row_length, row_place}
use Rattle.sources.proofs.list_form.ListFormListed.neighbour.Goals as goal

pub returns-in_err-row : goal.returns-in_err-row
returns-in_err-row c =
    let s = c.args.self.now in
    let g = listed (vec_items s.offsets) (vec_items s.neighbours) in
    let d = past_degree (vec_items s.offsets) (vec_items s.neighbours) c.args.c c.in_err-row.ensures in
    rw c.from_residual.ensures (record { listed = degree_past g c.args.c c.args.i (omega arith); ranked = omega arith })

pub returns-in_err-get : goal.returns-in_err-get
returns-in_err-get c =
    let s = c.args.self.now in
    let os = vec_items s.offsets in
    let ns = vec_items s.neighbours in
    let r = c.in_ok-row.ensures in
    let g = listed os ns in
    let n = ap length r.1 ∙ row_length os ns (sound_of s.sound) c.args.c r.0 ∙ row_degree os ns (sound_of s.sound) c.args.c r.0 in
    let b : length c.in_ok-row.field-0.now ≤ c.args.i = omega (arith, ltb-false _ (length c.in_ok-row.field-0.now) (sym c.in_err-get.ensures.lookup.0)) in
    rw c.from_residual-in_err-get.ensures (record { listed = degree_past g c.args.c c.args.i (omega (arith, n)); ranked = omega (arith, n) })

pub returns : goal.returns
returns c =
    let s = c.args.self.now in
    let os = vec_items s.offsets in
    let ns = vec_items s.neighbours in
    let r = c.in_ok-row.ensures in
    let g = listed os ns in
    let n = ap length r.1 in
    let m : c.args.i < length (row_of os ns c.args.c) = omega (arith, n, ltb-true _ (length c.in_ok-row.field-0.now) (sym c.in_ok-get.ensures.lookup.0)) in
    let v : c.in_ok-get.field-0.now ≡ get_or ns (get_or os c.args.c 0 + c.args.i) 0 = row_read c.in_ok-row.field-0.now _ c.args.i _ c.in_ok-get.ensures.lookup.1 (omega (arith, n, m)) (omega arith) ∙ ap (λ w. get_or w c.args.i 0) r.1 ∙ row_place os ns (sound_of s.sound) c.args.c r.0 c.args.i m in
    let q = row_ranked os ns (sound_of s.sound) c.args.c c.args.i c.in_ok-get.field-0.now r.0 (omega (arith, m, row_length os ns (sound_of s.sound) c.args.c r.0)) v in
    record { listed = ranked_listed g c.args.c c.args.i _ q; ranked = (q.within, q.joined, q.rank) }
