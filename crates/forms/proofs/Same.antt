-- Sound lists of the same graph are the same lists.
use Rattle.std.proofs.Common.{◌≡◌, ℕ, zero, suc, ◌+◌, ◌-◌, ◌<◌, ◌≤◌, List, length, get_or, sym, refl, ap, ◌∙◌, add-one, arith}
use Rattle.std.proofs.lemmas.List.{ext_get_or}
use Rattle.finite.specs.Finite.{count}
use Rattle.finite.proofs.Counts.{count_same}
use Rattle.finite.proofs.Members.{rank_one}
use Rattle.graph.specs.Graph.{Graph, clash, degree}
use Rattle.rows.specs.Rows.{rows, AtRow, Sound, listed}
use Rattle.rows.proofs.Lawful.{offsets_up, offsets_some, row_degree, row_ranked}
use Rattle.rows.proofs.Judged.{covered}
use Rattle.forms.specs.Forms.{OneForm}

-- the same pairs clash
abbrev pub SameClash : Graph → Graph → Type 0
SameClash g h = (a b : ℕ) → clash g a b ≡ clash h a b

pub degree_same : (g h : Graph) → g.size ≡ h.size → SameClash g h → (c : ℕ) → degree g c ≡ degree h c
unfolding degree
degree_same g h e s c =
    count_same (clash g c) (clash h c) g.size (λ b l. s c b) ∙ ap (count (clash h c)) e

pub offset_same : (os ns ps ms : List ℕ) → Sound os ns → Sound ps ms → rows os ≡ rows ps → SameClash (listed os ns) (listed ps ms) → (i : ℕ) → i ≤ rows os → get_or os i 0 ≡ get_or ps i 0
offset_same os ns ps ms w v e s zero l = (w.offsets 0 l).starts refl ∙ sym ((v.offsets 0 (omega arith)).starts refl)
offset_same os ns ps ms w v e s (suc i) l =
    let ih = offset_same os ns ps ms w v e s i (omega arith) in
    let d = row_degree os ns w i (omega arith) in
    let f = row_degree ps ms v i (omega arith) in
    let u = offsets_up os (length ns) w.offsets i (i + 1) (omega arith) (omega arith) in
    let z = offsets_up ps (length ms) v.offsets i (i + 1) (omega arith) (omega arith) in
    let q = degree_same (listed os ns) (listed ps ms) e s i in
    let r : get_or os (i + 1) 0 ≡ get_or ps (i + 1) 0 = omega arith in
    rw add-one at r

pub offsets_same : (os ns ps ms : List ℕ) → Sound os ns → Sound ps ms → rows os ≡ rows ps → SameClash (listed os ns) (listed ps ms) → os ≡ ps
offsets_same os ns ps ms w v e s =
    let a = offsets_some os (length ns) w.offsets in
    let b = offsets_some ps (length ms) v.offsets in
    ext_get_or 0 os ps (omega arith) (λ i l. offset_same os ns ps ms w v e s i (omega arith))

pub total_same : (os ns ps ms : List ℕ) → Sound os ns → Sound ps ms → rows os ≡ rows ps → SameClash (listed os ns) (listed ps ms) → length ns ≡ length ms
total_same os ns ps ms w v e s =
    let a = (w.offsets (rows os) (omega arith)).ends refl in
    let b = (v.offsets (rows os) (omega arith)).ends e in
    let c = offset_same os ns ps ms w v e s (rows os) (omega arith) in
    omega arith

-- what stands at place k of row c
pub entry_same : (os ns ps ms : List ℕ) → Sound os ns → Sound ps ms → rows os ≡ rows ps → SameClash (listed os ns) (listed ps ms) → (c k : ℕ) → AtRow os c k → get_or ns k 0 ≡ get_or ms k 0
entry_same os ns ps ms w v e s c k at =
    let row : c < rows os = at.row in
    let p = offset_same os ns ps ms w v e s c (omega arith) in
    let q = offset_same os ns ps ms w v e s (c + 1) (omega arith) in
    let i = k - get_or os c 0 in
    let x : get_or os c 0 + (k - get_or os c 0) ≡ k = omega (arith, at.from) in
    let y : get_or ps c 0 + (k - get_or os c 0) ≡ k = omega (arith, at.from) in
    let m = row_ranked os ns w c i (get_or ns k 0) row (omega (arith, at.from, at.to)) (ap (λ (j : ℕ). get_or ns j 0) (sym x)) in
    let n = row_ranked ps ms v c i (get_or ms k 0) (omega arith) (omega (arith, at.from, at.to)) (ap (λ (j : ℕ). get_or ms j 0) (sym y)) in
    let t = count_same (clash (listed os ns) c) (clash (listed ps ms) c) (get_or ms k 0) (λ b l. s c b) in
    rank_one (clash (listed os ns) c) (get_or ns k 0) (get_or ms k 0) m.joined (s c (get_or ms k 0) ∙ n.joined) (m.rank ∙ sym n.rank ∙ sym t)

pub sound_one : (os ns ps ms : List ℕ) → Sound os ns → Sound ps ms → rows os ≡ rows ps → ((a b : ℕ) → clash (listed os ns) a b ≡ clash (listed ps ms) a b) → (os ≡ ps) × (ns ≡ ms)
sound_one os ns ps ms w v e s =
    (offsets_same os ns ps ms w v e s, ext_get_or 0 ns ms (total_same os ns ps ms w v e s) (λ k l. let r = covered os ns w.offsets k l in entry_same os ns ps ms w v e s r.0 k r.1))

pub one_form : OneForm
one_form n es os ns ps ms x y =
    sound_one os ns ps ms x.sound y.sound (x.size ∙ sym y.size) (λ a b. x.same a b ∙ sym (y.same a b))
