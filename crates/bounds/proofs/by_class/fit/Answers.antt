use Rattle.std.proofs.Common.{eqb, rules, tests}
use lib.Bits.{bit_and}
use Rattle.std.proofs.lemmas.Iterator.{YieldsList-from_slice}
use Rattle.std.proofs.lemmas.Iterator.Search.{position_from_yields_List}
use Rattle.grids.proofs.Walks.{first_fit}
use Rattle.bounds.proofs.by_class.fit.Goals as goal

pub returns : goal.returns
returns c =
    first_fit c.args.row c.args.made.now c.position.result
    (position_from_yields_List (λ class. eqb (bit_and class c.args.row) 0) _ _ c.position.result c.position.ensures.ran (YieldsList-from_slice _ c.iter.ensures.rest) (λ x b q k. search (rules, tests)))
