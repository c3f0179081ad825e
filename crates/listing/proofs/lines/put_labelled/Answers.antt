use Rattle.listing.proofs.LineLaws.{lines}
use Rattle.listing.proofs.lines.put_labelled.Goals as goal

pub returns-clause-wrote : goal.returns-clause-wrote
returns-clause-wrote c = search lines
