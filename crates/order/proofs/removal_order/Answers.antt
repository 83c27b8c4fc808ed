use Rattle.std.proofs.Common.{◌≡◌, length, ◌∙◌, arith}
use Rattle.std.proofs.lemmas.List.{length-take-le, take_at, drop_at}
use Rattle.graph.proofs.Graphs.{vertices_le}
use Rattle.order.proofs.Copies.{ordered_copied}
use Rattle.order.proofs.removal_order.Goals as goal

pub remove_all-ordered-requires : goal.remove_all-ordered-requires
remove_all-ordered-requires g c =
    let lw = g.met.S.Source.lawful c.args.source.now in
    omega (arith, lw.small, vertices_le (g.S.Source.graph c.args.source.now))

pub returns : goal.returns
returns g c =
    let o = c.remove_all-ordered.ensures in
    let n = c.remove_all-ordered.result.len in
    let front = c.copy_from_slice.new.self in
    let l : length front ≡ n = c.copy_from_slice.ensures.len ∙ length-take-le n c.args.order.now (omega (arith, c.vertex_count.ensures, o.len_is)) in
    (ordered_copied _ _ c.remove_all-ordered.new.order _ _ _ _ o (omega (arith, c.vertex_count.ensures)) (take_at front _ n l ∙ c.copy_from_slice.ensures.after) (drop_at front _ n l), omega arith)
