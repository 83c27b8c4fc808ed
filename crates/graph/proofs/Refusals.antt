-- Refusals of a form.
use Rattle.std.proofs.Common.{◌≡◌, ℕ, refl, arith}
use Rattle.graph.specs.declared.refusal.Part.{Part}
use Rattle.graph.specs.declared.refusal.Refusal.{Refusal}
use Rattle.graph.specs.declared.refusal.Refusal.TheVariants.{OutOfRange, NotSo, OutOfTurn, TooDense, TooWide, NothingPulled, ShortBuffer, BadList, BadLine, Unordered, TooLarge, Miscounted, NoMemory}
use Rattle.graph.specs.Refusals.{FormFault, number}

-- where memory may be wanting too
pub form_fault_more : (L M N : Type 0) (B : Part → ℕ → Type 0) (x : Refusal) → (M → N) → FormFault L B M x → FormFault L B N x
form_fault_more L M N B OutOfRange f w = w
form_fault_more L M N B NotSo f w = w
form_fault_more L M N B OutOfTurn f w = w
form_fault_more L M N B TooDense f w = w
form_fault_more L M N B TooWide f w = w
form_fault_more L M N B NothingPulled f w = w
form_fault_more L M N B ShortBuffer f w = w
form_fault_more L M N B (BadList part index) f w = w
form_fault_more L M N B BadLine f w = w
form_fault_more L M N B Unordered f w = w
form_fault_more L M N B TooLarge f w = w
form_fault_more L M N B Miscounted f w = w
form_fault_more L M N B NoMemory f w = f w

-- neither too large nor without memory: an entry is at fault
pub form_fault_bad : (L : Type 0) (B : Part → ℕ → Type 0) (x : Refusal) → (L → ⊥) → FormFault L B ⊥ x → (part : Part) × (index : ℕ) × (x ≡ BadList part index) × B part index
form_fault_bad L B OutOfRange f w = absurd w
form_fault_bad L B NotSo f w = absurd w
form_fault_bad L B OutOfTurn f w = absurd w
form_fault_bad L B TooDense f w = absurd w
form_fault_bad L B TooWide f w = absurd w
form_fault_bad L B NothingPulled f w = absurd w
form_fault_bad L B ShortBuffer f w = absurd w
form_fault_bad L B (BadList part index) f w = (part, index, refl, w)
form_fault_bad L B BadLine f w = absurd w
form_fault_bad L B Unordered f w = absurd w
form_fault_bad L B TooLarge f w = absurd (f w)
form_fault_bad L B Miscounted f w = absurd w
form_fault_bad L B NoMemory f w = absurd w

-- nothing at fault: memory is wanting
pub form_fault_memory : (L M : Type 0) (B : Part → ℕ → Type 0) (x : Refusal) → (L → ⊥) → ((part : Part) (index : ℕ) → B part index → ⊥) → FormFault L B M x → x ≡ NoMemory
form_fault_memory L M B OutOfRange f g w = absurd w
form_fault_memory L M B NotSo f g w = absurd w
form_fault_memory L M B OutOfTurn f g w = absurd w
form_fault_memory L M B TooDense f g w = absurd w
form_fault_memory L M B TooWide f g w = absurd w
form_fault_memory L M B NothingPulled f g w = absurd w
form_fault_memory L M B ShortBuffer f g w = absurd w
form_fault_memory L M B (BadList part index) f g w = absurd (g part index w)
form_fault_memory L M B BadLine f g w = absurd w
form_fault_memory L M B Unordered f g w = absurd w
form_fault_memory L M B TooLarge f g w = absurd (f w)
form_fault_memory L M B Miscounted f g w = absurd w
form_fault_memory L M B NoMemory f g w = refl

-- one refusal has the number 99
pub number_memory : (x : Refusal) → number x ≡ 99 → x ≡ NoMemory
number_memory OutOfRange e = absurd (omega arith)
number_memory NotSo e = absurd (omega arith)
number_memory OutOfTurn e = absurd (omega arith)
number_memory TooDense e = absurd (omega arith)
number_memory TooWide e = absurd (omega arith)
number_memory NothingPulled e = absurd (omega arith)
number_memory ShortBuffer e = absurd (omega arith)
number_memory (BadList part index) e = absurd (omega arith)
number_memory BadLine e = absurd (omega arith)
number_memory Unordered e = absurd (omega arith)
number_memory TooLarge e = absurd (omega arith)
number_memory Miscounted e = absurd (omega arith)
number_memory NoMemory e = refl
