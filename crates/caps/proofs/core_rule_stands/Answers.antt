use Rattle.caps.proofs.Colours.{core_rule}
use Rattle.caps.proofs.core_rule_stands.Goals as goal

pub returns : goal.returns
returns c = core_rule
