use Rattle.listing.proofs.ListLaws.{counts}
use Rattle.listing.proofs.list.put_count.Goals as goal

pub returns-clause-wrote : goal.returns-clause-wrote
returns-clause-wrote c = search counts
