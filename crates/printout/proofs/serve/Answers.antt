use Rattle.std.proofs.Common.{◌≡◌, ℕ, List, take, Some, refl, ap, ◌∙◌, subst, inl, inr}
use Rattle.std.specs.Fn.{FnOnceReturnsAt}
use Rattle.std.specs.Option.{option_map}
use Rattle.std.specs.Io.KnownBytes.{Appends}
use Rattle.std.proofs.lemmas.Fn.{gave_at}
use Rattle.std.proofs.lemmas.Result.{on_ok_weaker}
use Rattle.printout.proofs.Prints.{where_known, bytes_read}
use Rattle.printout.proofs.serve.Goals as goal
use Rattle.printout.proofs.serve.Goals.{After-respond}

-- what is returned for the bytes that were read
asked : (g : _) (c : After-respond g) (bytes : List ℕ) → g.R.Read.remaining c.args.input ≡ Some bytes → FnOnceReturnsAt g.F.FnOnce c.args.respond (take 65537 bytes) c.respond.result
asked g c bytes e =
    let p = ap (λ i. option_map (take c.take.result.limit) (g.R.Read.remaining i)) c.take.ensures.inner ∙ ap (λ (k : ℕ). option_map (take k) (g.R.Read.remaining c.args.input)) c.take.ensures.limit in
    let read = bytes_read (g.R.Read.remaining c.args.input) _ 65537 bytes _ _ e p c.new-sheet.ensures.items c.in_ok-read_to_end.ensures.bytes in
    subst (λ xs. FnOnceReturnsAt g.F.FnOnce c.args.respond xs c.respond.result) (c.as_slice.ensures.value ∙ read) (gave_at g.F.FnOnce c.respond.ensures refl)

pub returns-in-Ok : goal.returns-in-Ok
returns-in-Ok g c =
    on_ok_weaker c.write_all.result (λ a. where_known _ (λ bytes e. inl (c.in-Ok.text, subst (FnOnceReturnsAt g.F.FnOnce c.args.respond (take 65537 bytes)) c.in-Ok.is (asked g (goal.at.returns-in-Ok g c).After-respond bytes e), subst (Appends _ _) c.as_slice-in-Ok.ensures.value a))) c.write_all.ensures.bytes

pub returns : goal.returns
returns g c =
    on_ok_weaker c.write_all-in-Err.result (λ a. where_known _ (λ bytes e. inr (c.in-Err.field-0, subst (FnOnceReturnsAt g.F.FnOnce c.args.respond (take 65537 bytes)) c.in-Err.is (asked g (goal.at.returns g c).After-respond bytes e), a))) c.write_all-in-Err.ensures.bytes
