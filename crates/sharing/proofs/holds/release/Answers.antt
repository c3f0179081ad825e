use Rattle.sharing.proofs.HoldLaws.{released_so}
use Rattle.sharing.proofs.holds.release.Goals as goal

pub returns-then-b-ge-PLACES : goal.returns-then-b-ge-PLACES
returns-then-b-ge-PLACES c = search released_so

pub returns-then-users-le1 : goal.returns-then-users-le1
returns-then-users-le1 c = search released_so

pub returns-else-users-le1 : goal.returns-else-users-le1
returns-else-users-le1 c = search released_so
