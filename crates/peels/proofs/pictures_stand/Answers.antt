use Rattle.peels.proofs.Pictures.{to_graph, from_graph}
use Rattle.peels.proofs.pictures_stand.Goals as goal

pub returns : goal.returns
returns c = record { from_places = to_graph; to_places = from_graph }
