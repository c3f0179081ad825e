use Rattle.sharing.proofs.HoldLaws.{shares}
use Rattle.sharing.proofs.holds.share.Goals as goal

pub returns-then-users-lt-MOST_USERS : goal.returns-then-users-lt-MOST_USERS
returns-then-users-lt-MOST_USERS c = search shares

pub returns : goal.returns
returns c = search shares
