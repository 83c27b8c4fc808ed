use Rattle.std.proofs.Common.{◌≤◌, is_ok, vec_items, sym, refl, ap, ◌∙◌, inl, arith}
use Rattle.std.proofs.lemmas.List.{length-take-le}
use Rattle.std.proofs.lemmas.Result.{err_from_is_err_and}
use Rattle.std.proofs.lemmas.Bool.{false≢true}
use Rattle.graph.specs.Graph.{held}
use Rattle.rows.specs.Rows.{listed}
use Rattle.rows.proofs.Props.{sound_of}
use Rattle.climbing.specs.Climbs.{BlockIn}
use Rattle.climbing.proofs.Later.{order_once}
use Rattle.sizing.proofs.Sizes.{plan_dense, form_sized}
use Rattle.sizing.proofs.size_form.Goals as goal
use Rattle.sizing.proofs.size_form.Goals.{In_ok-count}

pub returns-in_err-planned : goal.returns-in_err-planned
returns-in_err-planned c =
    let f = c.args.form.now in
    let p = err_from_is_err_and c.from_residual.result c.from_residual.ensures.1 in
    let small = (sound_of f.sound).small in
    rw (p.1, p.2) (inl (plan_dense (vec_items f.offsets) (vec_items f.neighbours) _ _ _ small refl refl c.in_err-planned.ensures.0))

pub returns-in_err-count : goal.returns-in_err-count
returns-in_err-count c =
    let p = c.in_ok-planned.ensures in
    let q = p.0.ordered in
    let f = c.args.form.now in
    let g = listed (vec_items f.offsets) (vec_items f.neighbours) in
    let yes-it = c.climb_all.ensures.succeeds c.in_ok-planned.planned.degeneracy q.order q.peak p.1 in
    absurd (false≢true (sym (ap (λ r. is_ok r) c.in_err-count.was) ∙ yes-it))

-- the block that was found
found : (c : In_ok-count) → BlockIn (listed (vec_items c.args.form.now.offsets) (vec_items c.args.form.now.neighbours)) (held (listed (vec_items c.args.form.now.offsets) (vec_items c.args.form.now.neighbours))) c.climb_all.new.block c.in_ok-count.count
found c =
    let f = c.args.form.now in
    let g = listed (vec_items f.offsets) (vec_items f.neighbours) in
    c.in_ok-count.ensures.cases.2 (order_once g _ c.in_ok-planned.ensures.0.ordered.order)

few : (c : In_ok-count) → c.in_ok-count.count ≤ 64
few c = c.in_ok-count.ensures.cases.0

pub slice_bounds-write_sizing-end : goal.slice_bounds-write_sizing-end
slice_bounds-write_sizing-end c = let h = few (goal.at.slice_bounds-write_sizing-end c).In_ok-count in
    let l = length-take-le c.in_ok-count.count c.climb_all.new.block (omega arith) in omega arith

pub slice_bounds-write_sizing-end-2 : goal.slice_bounds-write_sizing-end-2
slice_bounds-write_sizing-end-2 c =
    let f = c.args.form.now in
    let small = (sound_of f.sound).small in
    let z = c.size-n.ensures in
    let l = length-take-le c.size-n.result c.plan.new.colours (omega arith) in omega arith

pub returns : goal.returns
returns c =
    let f = c.args.form.now in
    let n = c.size-n.result in
    let small = (sound_of f.sound).small in
    let z = c.size-n.ensures in
    let p = c.in_ok-planned.ensures in
    form_sized (vec_items f.offsets) (vec_items f.neighbours) _ _ _ c.plan.new.colours c.climb_all.new.block _ _ _ _ _ _ n c.in_ok-count.count z p.0 p.1 (found (goal.at.returns c).In_ok-count) refl refl (length-take-le n c.plan.new.colours (omega arith)) c.in_ok-text.ensures
