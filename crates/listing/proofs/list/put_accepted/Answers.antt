use Rattle.format.specs.Bytes.{ascii}
use Rattle.format.specs.Walk.{name_section, hint_section}
use Rattle.listing.proofs.ListLaws.{accepts}
use Rattle.listing.proofs.list.put_accepted.Goals as goal

pub returns : goal.returns
unfolding ascii name_section hint_section
returns c = search accepts
