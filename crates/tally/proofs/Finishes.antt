-- The end of a laying.
use Rattle.std.proofs.Common.{◌≡◌, ℕ, zero, suc, ◌+◌, ◌-◌, ◌<◌, ◌≤◌, true, List, ◌++◌, length, get_or, take, drop, sym, ap, ◌∙◌, subst, inr, add-one, arith, length-take, get_or-drop, get_or-take}
use Rattle.std.proofs.lemmas.List.{get_or-append_right, take_at}
use Rattle.std.proofs.lemmas.Bool.{both_ways}
use Rattle.graph.specs.declared.edge.Edge.{Edge}
use Rattle.graph.specs.declared.refusal.Refusal.{Refusal}
use Rattle.graph.proofs.Refusals.{form_fault_bad}
use Rattle.rows.specs.Rows.{Sound, Misfit, FirstBad, big}
use Rattle.rows.proofs.Judged.{big_no}
use Rattle.listing.specs.Listing.{start}
use Rattle.listing.proofs.Starts.{start_none, start_more}
use Rattle.tally.specs.Laid.{Laid, Full, Offsets, Finished, Unfinished}
use Rattle.tally.specs.declared.laying.Laying.{Laying}

-- a laying whose rows are full, and the table of where they begin and end
pub record Ended (n : ℕ) (es done : List Edge) (t : Laying) (table : List ℕ) : Type 0 where
  pub laid : Laid n es done t
  pub small : t.n ≤ 1024
  pub few : t.clashes ≤ 16384
  pub empty : (c : ℕ) → c < t.n → get_or t.left c 0 ≡ 0
  pub long : length table ≡ 1025
  pub first : get_or table 0 0 ≡ 0
  pub ends : (c : ℕ) → c < t.n → get_or table (c + 1) 0 ≡ get_or t.next c 0

pub ended_full : (n : ℕ) (es done : List Edge) (t : Laying) (table : List ℕ) → Ended n es done t table → Full n es done
ended_full n es done t table w c l =
    let a = w.laid.left c l in let z = w.laid.size in let b = w.empty c (omega arith) in omega arith

table_starts : (n : ℕ) (es done : List Edge) (t : Laying) (table : List ℕ) → Ended n es done t table → (c : ℕ) → c ≤ n → get_or table c 0 ≡ start es c
table_starts n es done t table w zero l = w.first ∙ sym (start_none es)
table_starts n es done t table w (suc c) l =
    let z = w.laid.size in
    let e = ap (λ (i : ℕ). get_or table i 0) (add-one c) in
    let s = ap (start es) (add-one c) in
    let a = w.ends c (omega arith) in
    let b = w.laid.next c (omega arith) in
    let f = ended_full n es done t table w c (omega arith) in
    let m = start_more es c in omega arith

pub ended_offsets : (n : ℕ) (es done : List Edge) (t : Laying) (table os : List ℕ) → Ended n es done t table → os ≡ take (n + 1) table → Offsets n es os
ended_offsets n es done t table os w e =
    let z = w.laid.size in let y = w.small in let x = w.long in
    record {
      count = ap length e ∙ length-take (n + 1) table ∙ omega arith;
      starts = λ c l. ap (λ (xs : List ℕ). get_or xs c 0) e ∙ get_or-take (n + 1) table c 0 (omega arith) ∙ table_starts n es done t table w c l;
    }

pub finishes : (n : ℕ) (es done : List Edge) (t : Laying) (table os ms ns before after : List ℕ) → Ended n es done t table → t.n + 1 ≤ length before → t.clashes + t.clashes ≤ length ns → os ≡ take (t.n + 1) table → ms ≡ take (t.clashes + t.clashes) ns → Sound os ms → after ≡ os ++ drop (t.n + 1) before → Finished n es done ns before after
finishes n es done t table os ms ns before after w l r e f s a =
    let z = w.laid.size in let k = w.laid.count in
    let os-is : os ≡ take (n + 1) table = e ∙ ap (λ (i : ℕ). take (i + 1) table) z in
    let o = ended_offsets n es done t table os w os-is in
    let n1 = o.count in
    let front : take (n + 1) after ≡ os = ap (take (n + 1)) a ∙ take_at os (drop (t.n + 1) before) (n + 1) (omega arith) in
    let ms-is : ms ≡ take (length es + length es) ns = f ∙ ap (λ (i : ℕ). take (i + i) ns) k in
    record {
      room = record { long = omega arith; fits = omega arith };
      full = ended_full n es done t table w;
      offsets = subst (Offsets n es) (sym front) o;
      sound = subst (λ xs. Sound xs (take (length es + length es) ns)) (sym front) (subst (Sound os) ms-is s);
      rest = λ i h. ap (λ (xs : List ℕ). get_or xs i 0) a ∙ behind i h n1 z;
    }
  where
    behind : (i : ℕ) → n < i → length os ≡ n + 1 → t.n ≡ n → get_or (os ++ drop (t.n + 1) before) i 0 ≡ get_or before i 0
    behind i h n1 z =
        let k : (t.n + 1) + (i - (n + 1)) ≡ i = omega arith in
        get_or-append_right os (drop (t.n + 1) before) (n + 1) i 0 n1 (omega arith) ∙ get_or-drop (t.n + 1) before (i - (n + 1)) 0 ∙ ap (λ (x : ℕ). get_or before x 0) k

pub breaks : (n : ℕ) (es done : List Edge) (t : Laying) (table os ms ns : List ℕ) (places : ℕ) (x : Refusal) → Ended n es done t table → t.n + 1 ≤ places → t.clashes + t.clashes ≤ length ns → os ≡ take (t.n + 1) table → ms ≡ take (t.clashes + t.clashes) ns → Misfit os ms x → Unfinished n es done ns places x
breaks n es done t table os ms ns places x w l r e f m =
    let z = w.laid.size in let k = w.laid.count in let y = w.small in let v = w.few in let u = w.long in
    let os-is : os ≡ take (n + 1) table = e ∙ ap (λ (i : ℕ). take (i + 1) table) z in
    let ms-is : ms ≡ take (length es + length es) ns = f ∙ ap (λ (i : ℕ). take (i + i) ns) k in
    let o = ended_offsets n es done t table os w os-is in
    let a = o.count in
    let b : length ms ≤ 32768 = (let q = ap length ms-is ∙ length-take (length es + length es) ns in omega arith) in
    let no = big_no os ms (omega arith) b in
    let h = form_fault_bad (big os ms ≡ true) (FirstBad os ms) x (λ q. both_ways (big os ms) no q) m in
    inr (inr (
      record { long = omega arith; fits = omega arith },
      ended_full n es done t table w,
      (h.0, h.1, h.2, record { offsets = os; are = o; bad = subst (λ xs. FirstBad os xs h.0 h.1) ms-is h.3 }),
    ))
