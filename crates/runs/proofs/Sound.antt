-- What holds at every point of a string whose replies are those that are due.
use Rattle.std.proofs.Common.{◌≡◌, ℕ, ◌+◌, ◌<◌, ◌≤◌, Bool, true, false, cond, eqb, [], ◌∷◌, Ok, Err, MatchBool, Result, sym, refl, subst, inl, inr, arith}
use Rattle.std.proofs.lemmas.Bool.{both_ways, false≢true, eqb-true, eqb-false}
use Rattle.graph.specs.declared.refusal.Refusal.{Refusal}
use Rattle.graph.specs.Graph.{Graph, held, vertices}
use Rattle.graph.specs.Colourings.{ColourableIn, Colourable}
use Rattle.graph.specs.Hiding.{hide_answer, show_answer}
use Rattle.calls.specs.declared.standing.Standing.{Standing}
use Rattle.calls.specs.declared.standing.Standing.TheVariants.{Loose, Ordered, Climbed, Pulled, Won, Closed}
use Rattle.calls.specs.declared.standing.Operation.TheVariants as operation
use Rattle.calls.specs.declared.call.Call.{Call}
use Rattle.calls.specs.declared.call.Call.TheVariants.{Hide, Show, Order, Climb, Pull, Try, PutBack, Report}
use Rattle.calls.specs.declared.call.Reply.{Reply}
use Rattle.calls.specs.declared.call.Reply.TheVariants.{Done, Refused, Tried}
use Rattle.calls.specs.Table.{loose, full, solved, takes, put_back_to, operation, turned_away}
use Rattle.calls.specs.Points.{History, Point, event, graph_at, climbed_to, next, point_at}
use Rattle.calls.specs.Parts.{BlockSize, Kernel}
use Rattle.calls.specs.Fair.{SparseEnough, PullAnswer, Answers, Fair, FairHistory, reply_of}
use Rattle.runs.proofs.Blocks.{block_one, block_clique, clique_floor, colourable_more, colourable_within, kernel_held, kernel_one}

-- what holds of a planner that stands so after j climbs and n noes, over the graph at its point
pub record Sound (g : Graph) (s : Standing) (j n : ℕ) : Type 0 where
  -- loose: nothing is climbed
  pub none : loose s ≡ true → j ≡ 0
  -- before every vertex is climbed no try has said no
  pub fresh : full s ≡ false → n ≡ 0
  -- ordered: a vertex is left to climb
  pub some : loose s ≡ false → full s ≡ false → j < vertices g
  pub all : full s ≡ true → j ≡ vertices g
  pub sparse : loose s ≡ false → SparseEnough g
  -- fewer colours than the floor do not suffice
  pub floor : loose s ≡ false → (k b : ℕ) → BlockSize g j b → k < b + n → Colourable g k → ⊥
  -- after a yes the kernel has a colouring in 1 to the floor
  pub kernel : solved s ≡ true → (b : ℕ) (t : ℕ → Bool) → Kernel g j b t → ColourableIn g t (b + n)

abbrev pub SoundAt : Graph → Point → Type 0
SoundAt g x = Sound (graph_at g x) x.standing x.climbs x.noes

pub sound_loose : (g : Graph) → Sound g Loose 0 0
sound_loose g = record {
  none = λ _. refl;
  fresh = λ _. refl;
  some = λ e. absurd (false≢true (sym e));
  all = λ e. absurd (false≢true e);
  sparse = λ e. absurd (false≢true (sym e));
  floor = λ e. absurd (false≢true (sym e));
  kernel = λ e. absurd (false≢true e);
}

-- where no try has said no, the floor is the block
block_floor : (g : Graph) (j k b : ℕ) → BlockSize g j b → k < b + 0 → Colourable g k → ⊥
block_floor g j k b w l = clique_floor g w.0 b k (block_clique g j w.0 b w.1) (omega arith)

pub sound_climbed : (g : Graph) (j : ℕ) → SparseEnough g → j ≤ vertices g → Sound g (climbed_to g j) j 0
sound_climbed g j sp l = go (eqb j (vertices g)) refl
  where
    go : (b : Bool) → eqb j (vertices g) ≡ b → Sound g (cond b Climbed Ordered) j 0
    go true e = record {
      none = λ z. absurd (false≢true z);
      fresh = λ _. refl;
      some = λ _ z. absurd (false≢true (sym z));
      all = λ _. eqb-true j (vertices g) e;
      sparse = λ _. sp;
      floor = λ _. block_floor g j;
      kernel = λ z. absurd (false≢true z);
    }
    go false e = record {
      none = λ z. absurd (false≢true z);
      fresh = λ _. refl;
      some = λ _ _. (let ne = eqb-false j (vertices g) e in omega arith);
      all = λ z. absurd (false≢true z);
      sparse = λ _. sp;
      floor = λ _. block_floor g j;
      kernel = λ z. absurd (false≢true z);
    }

-- ---- standings

pub full_firm : (s : Standing) → full s ≡ true → loose s ≡ false
full_firm Loose e = absurd (false≢true e)
full_firm Ordered e = refl
full_firm Climbed e = refl
full_firm Pulled e = refl
full_firm Won e = refl
full_firm Closed e = refl

climb_from : (s : Standing) → takes s operation.Climb ≡ true → (loose s ≡ false) × (full s ≡ false)
climb_from Loose e = absurd (false≢true e)
climb_from Ordered e = (refl, refl)
climb_from Climbed e = absurd (false≢true e)
climb_from Pulled e = absurd (false≢true e)
climb_from Won e = absurd (false≢true e)
climb_from Closed e = absurd (false≢true e)

pull_from : (s : Standing) → takes s operation.Pull ≡ true → full s ≡ true
pull_from Loose e = absurd (false≢true e)
pull_from Ordered e = absurd (false≢true e)
pull_from Climbed e = refl
pull_from Pulled e = absurd (false≢true e)
pull_from Won e = absurd (false≢true e)
pull_from Closed e = absurd (false≢true e)

try_from : (s : Standing) → takes s operation.Try ≡ true → full s ≡ true
try_from Loose e = absurd (false≢true e)
try_from Ordered e = absurd (false≢true e)
try_from Climbed e = absurd (false≢true e)
try_from Pulled e = refl
try_from Won e = absurd (false≢true e)
try_from Closed e = absurd (false≢true e)

back_from : (s : Standing) → takes s operation.PutBack ≡ true → (full s ≡ true) × (full (put_back_to s) ≡ true) × (solved (put_back_to s) ≡ true → solved s ≡ true)
back_from Loose e = absurd (false≢true e)
back_from Ordered e = absurd (false≢true e)
back_from Climbed e = absurd (false≢true e)
back_from Pulled e = (refl, refl, λ z. absurd (false≢true z))
back_from Won e = (refl, refl, λ z. refl)
back_from Closed e = absurd (false≢true e)

-- ---- what the calls after the climb do

sound_stand : (g : Graph) (s t : Standing) (j n : ℕ) → full s ≡ true → full t ≡ true → (solved t ≡ true → solved s ≡ true) → Sound g s j n → Sound g t j n
sound_stand g s t j n fs ft won h = record {
  none = λ e. absurd (both_ways (loose t) (full_firm t ft) e);
  fresh = λ e. absurd (both_ways (full t) e ft);
  some = λ _ e. absurd (both_ways (full t) e ft);
  all = λ _. h.all fs;
  sparse = λ _. h.sparse (full_firm s fs);
  floor = λ _. h.floor (full_firm s fs);
  kernel = λ e. h.kernel (won e);
}

-- a try that says no lifts the floor by one
sound_no : (g : Graph) (s : Standing) (j n b : ℕ) (t : ℕ → Bool) → full s ≡ true → Kernel g j b t → (ColourableIn g t (b + n) → ⊥) → Sound g s j n → Sound g Pulled j (n + 1)
sound_no g s j n b t fs is_kernel never h = record {
  none = λ e. absurd (false≢true e);
  fresh = λ e. absurd (false≢true (sym e));
  some = λ _ e. absurd (false≢true (sym e));
  all = λ _. h.all fs;
  sparse = λ _. h.sparse (full_firm s fs);
  floor = λ _ k d w l c. (let e = block_one g j d b w is_kernel.block in never (colourable_more g t k (b + n) (omega arith) (colourable_within g t (held g) k (kernel_held g j b t is_kernel) c)));
  kernel = λ e. absurd (false≢true e);
}

sound_yes : (g : Graph) (s : Standing) (j n b : ℕ) (t : ℕ → Bool) → full s ≡ true → Kernel g j b t → ColourableIn g t (b + n) → Sound g s j n → Sound g Won j n
sound_yes g s j n b t fs is_kernel c h = record {
  none = λ e. absurd (false≢true e);
  fresh = λ e. absurd (false≢true (sym e));
  some = λ _ e. absurd (false≢true (sym e));
  all = λ _. h.all fs;
  sparse = λ _. h.sparse (full_firm s fs);
  floor = λ _. h.floor (full_firm s fs);
  kernel = λ _ d u w. (let e = block_one g j b d is_kernel.block w.block in colourable_more g u (b + n) (d + n) (omega arith) (colourable_within g u t (b + n) (kernel_one g j d b u t w is_kernel) c));
}

-- ---- every event

module _ (g : Graph) (x : Point) (h : SoundAt g x) where
  hid : (k : ℕ) (o : Result (Unit {0}) Refusal) → SoundAt g (next g x (event (Hide k) (reply_of o)))
  hid k (Ok u) = sound_loose (graph_at g (next g x (event (Hide k) Done)))
  hid k (Err e) = h

  shown : (k : ℕ) (o : Result (Unit {0}) Refusal) → SoundAt g (next g x (event (Show k) (reply_of o)))
  shown k (Ok u) = sound_loose (graph_at g (next g x (event (Show k) Done)))
  shown k (Err e) = h

  pulled : full x.standing ≡ true → (r : Reply) → PullAnswer (graph_at g x) x r → SoundAt g (next g x (event Pull r))
  pulled f r a =
      elim a.answer [
        | inl away ↦ subst (λ v. SoundAt g (next g x (event Pull v))) (sym away.0) h
        | inr done ↦ subst (λ v. SoundAt g (next g x (event Pull v))) (sym done.0) (sound_stand (graph_at g x) x.standing Pulled x.climbs x.noes f refl (λ e. absurd (false≢true e)) h)
      ]

  tried : full x.standing ≡ true → (b : ℕ) (t : ℕ → Bool) → Kernel (graph_at g x) x.climbs b t → (won : Bool) → MatchBool won (ColourableIn (graph_at g x) t (b + x.noes)) (ColourableIn (graph_at g x) t (b + x.noes) → ⊥) → SoundAt g (next g x (event Try (Tried won)))
  tried f b t is_kernel true c = sound_yes (graph_at g x) x.standing x.climbs x.noes b t f is_kernel c h
  tried f b t is_kernel false c = sound_no (graph_at g x) x.standing x.climbs x.noes b t f is_kernel c h

  -- a call that the standing takes
  taken : (c : Call) (r : Reply) → takes x.standing (operation c) ≡ true → Answers (graph_at g x) x c r → SoundAt g (next g x (event c r))
  taken (Hide k) r e a =
      subst (λ v. SoundAt g (next g x (event (Hide k) v))) (sym a) (hid k (hide_answer (graph_at g x) k))
  taken (Show k) r e a =
      subst (λ v. SoundAt g (next g x (event (Show k) v))) (sym a) (shown k (show_answer (graph_at g x) x.hidden k))
  taken Order r e a =
      elim a [
        | inl away ↦ subst (λ v. SoundAt g (next g x (event Order v))) (sym away.0) h
        | inr done ↦ subst (λ v. SoundAt g (next g x (event Order v))) (sym done.0) (sound_climbed (graph_at g x) 0 done.1 (omega arith))
      ]
  taken Climb r e a =
      let f = climb_from x.standing e in
      let l = h.some f.0 f.1 in
      subst (λ v. SoundAt g (next g x (event Climb v))) (sym a)
      (subst (Sound (graph_at g x) (climbed_to (graph_at g x) (x.climbs + 1)) (x.climbs + 1)) (sym (h.fresh f.1))
      (sound_climbed (graph_at g x) (x.climbs + 1) (h.sparse f.0) (omega arith)))
  taken Pull r e a = pulled (pull_from x.standing e) r a
  taken Try r e a =
      subst (λ v. SoundAt g (next g x (event Try v))) (sym a.answer)
      (tried (try_from x.standing e) a.size a.kernel a.is_kernel a.yes a.test)
  taken PutBack r e a =
      let f = back_from x.standing e in
      subst (λ v. SoundAt g (next g x (event PutBack v))) (sym a)
      (sound_stand (graph_at g x) x.standing (put_back_to x.standing) x.climbs x.noes f.0 f.1 f.2 h)
  taken Report r e a = subst (λ v. SoundAt g (next g x (event Report v))) (sym a.1) h

  pub sound_next : (c : Call) (r : Reply) → Fair g x c r → SoundAt g (next g x (event c r))
  sound_next c r = go (takes x.standing (operation c)) refl
    where
      go : (b : Bool) → takes x.standing (operation c) ≡ b → MatchBool b (Answers (graph_at g x) x c r) (r ≡ Refused (turned_away (operation c))) → SoundAt g (next g x (event c r))
      go true e a = taken c r e a
      go false e a = subst (λ v. SoundAt g (next g x (event c v))) (sym a) h

pub sound : (g : Graph) (h : History) → FairHistory g h → SoundAt g (point_at g h)
sound g [] f = sound_loose (graph_at g (point_at g []))
sound g (e ∷ h) f = sound_next g (point_at g h) (sound g h f.1) e.call e.reply f.0
