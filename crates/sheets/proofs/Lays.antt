-- All edges of a stock counted, and then laid.
use Rattle.std.proofs.Common.{◌≡◌, ℕ, ◌+◌, ◌<◌, ◌≤◌, List, [], ◌∷◌, ◌++◌, length, get_or, take, set, Some, None, Option, sym, refl, ap, ◌∙◌, subst, inl, inr, arith, get_or-set_other}
use Rattle.std.proofs.lemmas.List.{length-set, length-take-le, take_more, take_all}
use Rattle.graph.specs.declared.edge.Edge.{Edge}
use Rattle.graph.specs.declared.refusal.Part.{Part}
use Rattle.graph.specs.declared.refusal.Part.TheVariants.{Offsets, Neighbours}
use Rattle.graph.specs.declared.refusal.Refusal.{Refusal}
use Rattle.graph.specs.Edges.{edge, Good}
use Rattle.rows.specs.Rows.{Sound, FirstBad}
use Rattle.rows.proofs.Judged.{one_fault}
use Rattle.listing.specs.Listing.{row_length, start, LaidRows}
use Rattle.listing.proofs.Starts.{start_all, place_before}
use Rattle.listing.proofs.Laid.{laid_none, laid_more}
use Rattle.listing.proofs.All.{all_laid}
use Rattle.listing.proofs.Fronts.{next_edge}
use Rattle.tally.specs.declared.state.Tally.{Tally}
use Rattle.tally.specs.declared.laying.Laying.{Laying}
use Rattle.tally.specs.Counted.{Counted, counting}
use Rattle.tally.specs.Laid.{Laid, laying, Finished, Unfinished}
use Rattle.tally.proofs.Counts.{counting_none}
use Rattle.tally.proofs.Lays.{fault_none}
use Rattle.sheets.specs.Into.{LaidInto}

no_some : {A : Type 0} (o : Option A) (x : A) → o ≡ None → o ≡ Some x → ⊥
no_some o x e f = let z : ◌≡◌ {A = ℕ} 0 1 = cc in omega arith

-- counting the next edge
pub count_fine : (n : ℕ) (es : List Edge) (i : ℕ) (d : Edge) → Good n es → i < length es → counting n (take i es) (get_or es i d).a (get_or es i d).b ≡ None
count_fine n es i d g l =
    let e = next_edge n es i d g.rising l in
    let t = length-take-le i es (omega arith) in
    counting_none n (take i es) (get_or es i d).a (get_or es i d).b (omega (arith, e.less, e.below)) e.below e.less e.after (omega (arith, g.few))

pub count_never : (n : ℕ) (es : List Edge) (i : ℕ) (d : Edge) (x : Refusal) → Good n es → i < length es → counting n (take i es) (get_or es i d).a (get_or es i d).b ≡ Some x → ⊥
count_never n es i d x g l e = no_some (counting n (take i es) (get_or es i d).a (get_or es i d).b) x (count_fine n es i d g l) e

pub count_next : (n : ℕ) (es : List Edge) (i : ℕ) (d : Edge) (t : Tally) → i < length es → Counted n (take i es ++ edge (get_or es i d).a (get_or es i d).b ∷ []) t → Counted n (take (i + 1) es) t
count_next n es i d t l w = subst (λ xs. Counted n xs t) (sym (take_more es i d l)) w

pub count_all : (n : ℕ) (es : List Edge) (i : ℕ) (t : Tally) → length es ≤ i → Counted n (take i es) t → Counted n es t
count_all n es i t l w = subst (λ xs. Counted n xs t) (take_all i es l) w

-- the first i edges are laid
pub record LayingOn (n : ℕ) (es : List Edge) (i : ℕ) (t : Laying) (ns ns' : List ℕ) : Type 0 where
  pub laid : Laid n es (take i es) t
  pub rows : LaidRows n es (take i es) ns'
  pub same : length ns' ≡ length ns
  pub rest : (k : ℕ) → length es + length es ≤ k → get_or ns' k 0 ≡ get_or ns k 0

pub lay_none : (n : ℕ) (es : List Edge) (t : Laying) (ns : List ℕ) → Good n es → Laid n es [] t → length es + length es ≤ length ns → LayingOn n es 0 t ns ns
lay_none n es t ns g w r =
    record { laid = w; rows = laid_none n es ns (omega (arith, start_all n es g.rising)); same = refl; rest = λ k l. refl }

pub lay_never : (n : ℕ) (es : List Edge) (i : ℕ) (d : Edge) (x : Refusal) (room : ℕ) → Good n es → i < length es → length es + length es ≤ room → laying n es (take i es) room (get_or es i d).a (get_or es i d).b ≡ Some x → ⊥
lay_never n es i d x room g l r h =
    let e = next_edge n es i d g.rising l in
    no_some (laying n es (take i es) room (get_or es i d).a (get_or es i d).b) x (fault_none n es (take i es) room (get_or es i d).a (get_or es i d).b (record { room_is = r; first = omega (arith, e.less, e.below); second = e.below }) e.less e.after e.room_a e.room_b) h

pub lay_next : (n : ℕ) (es : List Edge) (i : ℕ) (d : Edge) (t u : Laying) (ns mid new : List ℕ) → Good n es → i < length es → LayingOn n es i t ns mid → Laid n es (take i es ++ edge (get_or es i d).a (get_or es i d).b ∷ []) u → new ≡ set (set mid (start es (get_or es i d).a + row_length (take i es) (get_or es i d).a) (get_or es i d).b) (start es (get_or es i d).b + row_length (take i es) (get_or es i d).b) (get_or es i d).a → LayingOn n es (i + 1) u ns new
lay_next n es i d t u ns mid new g l s w f =
    let a = (get_or es i d).a in
    let b = (get_or es i d).b in
    let e = next_edge n es i d g.rising l in
    let pa = start es a + row_length (take i es) a in
    let pb = start es b + row_length (take i es) b in
    let k1 = length-set mid pa b in
    let k2 = length-set (set mid pa b) pb a in
    let q = s.same in
    let all = start_all n es g.rising in
    let la : pa < start es n = place_before es a n (row_length (take i es) a) (omega (arith, e.less, e.below)) e.room_a in
    let lb : pb < start es n = place_before es b n (row_length (take i es) b) e.below e.room_b in
    let m = sym (take_more es i d l) in
    record {
      laid = subst (λ xs. Laid n es xs u) m w;
      rows = subst (λ xs. LaidRows n es xs new) m (subst (LaidRows n es (take i es ++ edge a b ∷ [])) (sym f) (laid_more n es (take i es) mid a b s.rows e.front e.less e.below e.room_a e.room_b));
      same = ap (λ (xs : List ℕ). length xs) f ∙ omega arith;
      rest = λ k h. ap (λ (xs : List ℕ). get_or xs k 0) f ∙ get_or-set_other (set mid pa b) pb k a 0 (λ z. omega arith) ∙ get_or-set_other mid pa k b 0 (λ z. omega arith) ∙ s.rest k h;
    }

pub lay_all : (n : ℕ) (es : List Edge) (i : ℕ) (t : Laying) (ns ns' : List ℕ) → length es ≤ i → LayingOn n es i t ns ns' → Laid n es es t × LaidRows n es es ns' × ((k : ℕ) → length es + length es ≤ k → get_or ns' k 0 ≡ get_or ns k 0)
lay_all n es i t ns ns' l s =
    let e = take_all i es l in
    (subst (λ xs. Laid n es xs t) e s.laid, subst (λ xs. LaidRows n es xs ns') e s.rows, s.rest)

-- the list form as a whole
pub laid_into : (n : ℕ) (es : List Edge) (os os' ns ns' : List ℕ) → Good n es → LaidRows n es es ns' → ((k : ℕ) → length es + length es ≤ k → get_or ns' k 0 ≡ get_or ns k 0) → Finished n es es ns' os os' → LaidInto n es os os' ns ns'
laid_into n es os os' ns ns' g w r f =
    record {
      lists = all_laid n es (take (n + 1) os') ns' g w f.offsets.count f.offsets.starts;
      offsets = f.rest;
      neighbours = r;
    }

pub not_bad : (os ns : List ℕ) (part : Part) (k : ℕ) → Sound os ns → FirstBad os ns part k → ⊥
not_bad os ns Offsets k w b = one_fault.sound_offsets os ns k w b.1
not_bad os ns Neighbours k w b = one_fault.sound_entries os ns k w b.1

pub finish_never : (n : ℕ) (es : List Edge) (ns : List ℕ) (places : ℕ) (x : Refusal) → Good n es → LaidRows n es es ns → n + 1 ≤ places → length es + length es ≤ length ns → Unfinished n es es ns places x → ⊥
finish_never n es ns places x g w l r (inl u) = u.1 (record { long = l; fits = r })
finish_never n es ns places x g w l r (inr (inl u)) = omega (arith, u.2.2)
finish_never n es ns places x g w l r (inr (inr u)) =
    let b = u.2.3 in
    not_bad b.offsets (take (length es + length es) ns) u.2.0 u.2.1 (all_laid n es b.offsets ns g w b.are.count b.are.starts).sound b.bad
