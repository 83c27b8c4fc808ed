use Rattle.reading.proofs.Opens.{stated}
use Rattle.reading.proofs.check.Goals as goal

pub returns : goal.returns
returns c = stated c.args.sheet.now c.in_ok-opened.opened _ _ c.in_ok-clashes.clashes c.in_ok-opened.ensures c.in_ok-clashes.ensures
