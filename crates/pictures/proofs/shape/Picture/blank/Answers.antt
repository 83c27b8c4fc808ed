use Rattle.std.proofs.Common.{sym, refl, ◌∙◌}
use Rattle.std.proofs.lemmas.Bool.{both_ways}
use Rattle.grids.proofs.Empty.{none_linked}
use Rattle.pictures.proofs.shape.Picture.blank.Goals as goal

pub invariant_of-result : goal.invariant_of-result
invariant_of-result c =
    record { small = c.requires; even = λ i j. none_linked i j ∙ sym (none_linked j i); loopless = λ i. none_linked i i; held = λ i j t. absurd (both_ways _ (none_linked i j) t) }

pub returns : goal.returns
returns c = record { size = refl; none = none_linked }
