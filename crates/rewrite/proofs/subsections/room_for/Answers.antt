use Rattle.rewrite.proofs.SubsectionPuts.{room_found}
use Rattle.rewrite.proofs.subsections.room_for.Goals as goal

pub returns-then-most-room : goal.returns-then-most-room
returns-then-most-room c = search room_found
