use Rattle.std.proofs.Common.{Ok, Err, Result, ◌≡◌, ◌∙◌, rules}
use Rattle.std.specs.Result.{MatchResult, IsErrAnd}
use Rattle.rows.proofs.Props.{sound_of}
use Rattle.sheets.proofs.Stocks.{rereads, rereads_not}
use Rattle.sheets.proofs.rounds.reread.Goals as goal

-- what is known of a result of which the error was turned
turned : {A E F : Type 0} {P S : A → Type 0} {Q : E → Type 0} {R : F → Type 0} {L : E → F → Type 0} (r : Result A E) (s : Result A F) → MatchResult r P Q → ((x : A) → P x → S x) → ((e : E) (x : F) → Q e → L e x → R x) → MatchResult r (λ x. s ≡ Ok x) (λ e. IsErrAnd s (L e)) → MatchResult s S R
turned (Ok x) s h g f e = rw e (g x h)
turned (Err e) (Ok x) h g f w = absurd w
turned (Err e) (Err x) h g f w = f e x h w

pub returns : goal.returns
returns c =
    let n = sound_of c.args.form.now.sound in
    let e = c.as_slice.ensures.value ∙ c.in_ok-text.ensures in
    turned c.load.result c.map_err.result c.load.ensures (λ f w. rereads _ _ c.as_slice.result.now _ _ n e w) (λ f x u l. let k = rereads_not _ _ c.as_slice.result.now f n e u in search (rules, k)) c.map_err.ensures.cases
