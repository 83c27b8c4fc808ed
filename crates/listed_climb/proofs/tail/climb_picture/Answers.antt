use Rattle.searching.proofs.Climbs.{climbed_none}
use Rattle.listed_climb.proofs.tail.climb_picture.Goals as goal

pub loop-v-init : goal.loop-v-init
loop-v-init g c = climbed_none c.args.p.now
