use Rattle.format.proofs.Nested.{ok_some}
use Rattle.listing.proofs.ListLaws.{list_turns}
use Rattle.listing.proofs.list.put_from.Goals as goal

pub loop-read-init : goal.loop-read-init
loop-read-init c = search list_turns

pub returns-in_default-clause-adds_from : goal.returns-in_default-clause-adds_from
returns-in_default-clause-adds_from c = search list_turns

pub returns-in_default-read-clause-adds_from : goal.returns-in_default-read-clause-adds_from
returns-in_default-read-clause-adds_from c = search list_turns

pub put_section-next-requires : goal.put_section-next-requires
put_section-next-requires c = let e = ok_some c.in-Ok.is c.in-Some.is in search list_turns

pub loop-read-preserved : goal.loop-read-preserved
loop-read-preserved c = search list_turns
