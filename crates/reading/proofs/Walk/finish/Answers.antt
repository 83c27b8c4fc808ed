use Rattle.std.proofs.Common.{arith}
use Rattle.grammar.proofs.Steps.{ends_well}
use Rattle.reading.proofs.Walk.finish.Goals as goal

pub returns : goal.returns
returns c =
    λ es e.
    let z = c.is_empty.ensures in
    ends_well c.args.self.size.n c.args.self.size.clashes c.args.self.done c.args.line.at c.args.line.text.now c.args.more.now (omega arith) (grind arith) es
