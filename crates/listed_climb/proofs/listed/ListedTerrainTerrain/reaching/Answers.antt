use Rattle.std.proofs.Common.{ltb, ap, ◌∙◌, arith, rules}
use Rattle.listed_climb.proofs.listed.ListedTerrainTerrain.reaching.Goals as goal

pub returns : goal.returns
returns g c =
    record {
      picture = c.unwrap-picture.result;
      mask = c.below.result;
      draws = search rules;
      full = λ j. c.below.ensures j ∙ ap (ltb j) (omega arith);
      found = c.at_least.ensures;
    }
