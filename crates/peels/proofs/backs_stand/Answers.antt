use Rattle.peels.proofs.Backs.{put_back_one, put_coloured_max}
use Rattle.peels.proofs.backs_stand.Goals as goal

pub returns : goal.returns
returns c = record { one = put_back_one; coloured = put_coloured_max }
