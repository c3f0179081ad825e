use Rattle.reordering.proofs.Listings.{payload_lists}
use Rattle.reordering.proofs.listing.list_payload.Goals as goal

pub number_here-count-requires : goal.number_here-count-requires
number_here-count-requires c = search payload_lists

pub survey_rows-found-requires : goal.survey_rows-found-requires
survey_rows-found-requires c = search payload_lists

pub returns-then-found : goal.returns-then-found
returns-then-found c = search payload_lists

pub returns : goal.returns
returns c = search payload_lists
