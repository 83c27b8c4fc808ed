use Rattle.listing.proofs.All.{all_laid, starts_told}
use Rattle.listing.proofs.listing_stands.Goals as goal

pub returns : goal.returns
returns c = record { all = all_laid; starts = starts_told }
