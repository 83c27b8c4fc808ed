use Rattle.std.proofs.Common.{◌-◌, length}
use Rattle.peel_checks.proofs.generated.+extends.Given as goal

abbrev pub decreases-extends : goal.decreases-extends
decreases-extends l = length l.drives.now - l.c
