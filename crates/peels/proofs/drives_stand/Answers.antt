use Rattle.peels.proofs.Kernels.{least_colours}
use Rattle.peels.proofs.Renumber.{used_suffice}
use Rattle.peels.proofs.drives_stand.Goals as goal

pub returns : goal.returns
returns c = record { least = least_colours; enough = used_suffice }
