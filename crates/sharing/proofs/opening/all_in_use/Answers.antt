use Rattle.sharing.proofs.UseLaws.{uses}
use Rattle.sharing.proofs.opening.all_in_use.Goals as goal

pub returns-in_default : goal.returns-in_default
returns-in_default c = search uses

pub returns-then-room-needed : goal.returns-then-room-needed
returns-then-room-needed c = search uses

pub returns-in-Ok-names : goal.returns-in-Ok-names
returns-in-Ok-names c = search uses

pub returns-else-room-needed : goal.returns-else-room-needed
returns-else-room-needed c = search uses
