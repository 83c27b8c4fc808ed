use Rattle.std.proofs.Common.{arith}
use Rattle.reading.proofs.Opens.{read_into}
use Rattle.reading.proofs.read_edges.Goals as goal

pub returns : goal.returns
returns c = read_into c.args.sheet.now c.in_ok-opened.opened _ _ c.args.edges.now c.walk_lines-2.new.edges c.in_ok-count.count c.in_ok-clashes.clashes c.in_ok-opened.ensures c.in_ok-count.ensures c.in_ok-clashes.ensures (omega arith)
