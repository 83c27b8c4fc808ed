-- What chains over the numbers below n yield.
use Rattle.std.proofs.Common.{◌≡◌, ℕ, Bool, subst}
use Rattle.std.proofs.iter.Yields.{nat_range_steps}
use Rattle.std.proofs.lemmas.Iterator.{YieldsList}
use Rattle.std.proofs.lemmas.Iterator.Consumers.{YieldsList-from_filter}
use Rattle.std.specs.Fn.{CalledAt}
use Rattle.std.specs.Iterator.Adapters.{filter_source, filter_callee, filter_steps}
use Rattle.std.specs.List.{range_with_len}
use denote.Param.Members.{Mut}
use denote.Ref.{Bor}
use Rattle.finite.specs.Finite.{members}
use Rattle.finite.proofs.Members.{filter_range}

-- a filter of them yields the members
pub members_from_filter : {F : Type 0} {s : _} (g : Mut F (Bor ℕ × Unit {0}) Bool) (p : ℕ → Bool) (n : ℕ) {f : F} → YieldsList nat_range_steps (λ x. x) (filter_source s) (range_with_len 0 n) → filter_callee s ≡ f → ((x : ℕ) (b : Bool) (q : F) → CalledAt g f x b q → (q ≡ f) × (b ≡ p x)) → YieldsList (filter_steps nat_range_steps g) (λ x. x) s (members p n)
members_from_filter g p n e i h =
    subst (YieldsList (filter_steps nat_range_steps g) (λ x. x) _) (filter_range p n) (YieldsList-from_filter g p e i h)
