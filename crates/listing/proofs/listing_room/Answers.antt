use Rattle.listing.specs.Lines.{room}
use Rattle.listing.proofs.MainLaws.{zeros_long}
use Rattle.listing.proofs.listing_room.Goals as goal

pub returns : goal.returns
returns c = zeros_long room
