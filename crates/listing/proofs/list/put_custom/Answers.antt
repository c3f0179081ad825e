use Rattle.listing.proofs.ListLaws.{customs}
use Rattle.listing.proofs.list.put_custom.Goals as goal

pub returns-clause-adds : goal.returns-clause-adds
returns-clause-adds c = search customs
