use Rattle.std.proofs.Common.{◌≡◌, length, vec_items, ap, arith}
use Rattle.graph.specs.Edges.{edge_list}
use Rattle.rows.specs.Rows.{listed, rows}
use Rattle.rows.proofs.Props.{sound_of}
use Rattle.forms.proofs.Forms.{edges_count}
use Rattle.writing.proofs.Uppers.{below_none, below_more, all_rows, all_written}
use Rattle.writing.proofs.write.Goals as goal

pub loop-a-init : goal.loop-a-init
loop-a-init c = below_none (listed (vec_items c.args.form.now.offsets) (vec_items c.args.form.now.neighbours)) _

pub loop-a-preserved : goal.loop-a-preserved
loop-a-preserved c =
    below_more (listed (vec_items c.args.form.now.offsets) (vec_items c.args.form.now.neighbours)) _ _ _ c.loop-a.a c.loop-a.invariant c.in_ok-write_row.ensures

pub returns : goal.returns
returns c =
    let os = vec_items c.args.form.now.offsets in
    let ns = vec_items c.args.form.now.neighbours in
    let g = listed os ns in
    let k = edges_count os ns (sound_of c.args.form.now.sound) in
    let z : c.loop-a.a ≡ rows os = omega arith in
    let t = all_rows g c.loop-a.a _ (rows os) _ _ _ _ c.new-out.ensures.items c.in_ok-write_line.ensures c.size-n.ensures c.loop-a.invariant z in
    all_written (rows os) _ (edge_list g) _ _ (omega (arith, k, ap length c.neighbours.ensures)) t c.in_ok-extend_from_slice.ensures.items
