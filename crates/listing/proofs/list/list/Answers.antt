use Rattle.listing.proofs.ListLaws.{lists}
use Rattle.listing.proofs.list.list.Goals as goal

pub returns-then-m-gt-GREATEST : goal.returns-then-m-gt-GREATEST
returns-then-m-gt-GREATEST c = search lists

pub returns-in-Err : goal.returns-in-Err
returns-in-Err c = search lists

pub returns-in-Ok : goal.returns-in-Ok
returns-in-Ok c = search lists
