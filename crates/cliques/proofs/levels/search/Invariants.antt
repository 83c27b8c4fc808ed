use Rattle.std.proofs.Common.{◌≡◌, length}
use Rattle.searching.proofs.Stack.{State}
use Rattle.searching.proofs.Weights.{load}
use Rattle.cliques.proofs.Stacked.{spare_of, branch_of, picked_of}
use Rattle.cliques.proofs.levels.search.Given as goal

abbrev pub invariant-loop-height : goal.invariant-loop-height
invariant-loop-height g l =
    (length l.stack ≡ 65) × State l.p l.mask l.size (spare_of l.stack) (branch_of l.stack) (picked_of l.stack) l.height l.best l.most

abbrev pub decreases-loop-height : goal.decreases-loop-height
decreases-loop-height g l = load (spare_of l.stack) l.height
