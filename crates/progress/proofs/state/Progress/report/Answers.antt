use Rattle.std.proofs.Common.{refl}
use Rattle.progress.proofs.Steps.{reported}
use Rattle.progress.proofs.state.Progress.report.Goals as goal

pub returns : goal.returns
returns c g x y =
    reported g c.args.self.now _ refl refl c.len.ensures.value refl refl x y c.from.ensures refl c.proved.ensures
