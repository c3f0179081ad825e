use Rattle.listing.proofs.ListLaws.{all_sections}
use Rattle.listing.proofs.list.put_sections.Goals as goal

pub returns-in-Err-clause-adds : goal.returns-in-Err-clause-adds
returns-in-Err-clause-adds c = search all_sections

pub returns-in-Ok-clause-adds : goal.returns-in-Ok-clause-adds
returns-in-Ok-clause-adds c = search all_sections
