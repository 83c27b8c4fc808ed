use Rattle.grids.proofs.Classes.{classes_sound}
use Rattle.grids.proofs.grids_stand.Goals as goal

pub returns : goal.returns
returns c = classes_sound
