use Rattle.format.proofs.Nested.{handed_on}
use Rattle.reordering.proofs.Listings.{judgement_lists}
use Rattle.reordering.proofs.listing.list.Goals as goal

pub list_payload-requires : goal.list_payload-requires
list_payload-requires c = search (c.in_ok-judge.was, judgement_lists)

pub returns-in_err-judge : goal.returns-in_err-judge
returns-in_err-judge c = rw (handed_on _ c.from_residual.ensures) (search (c.in_err-judge.was, judgement_lists))

pub returns : goal.returns
returns c = search (c.in_ok-judge.was, judgement_lists)
