use Rattle.reading.proofs.PartSteps.{name_steps}
use Rattle.reading.proofs.Cursor.name.Goals as goal

pub is_text-requires : goal.is_text-requires
is_text-requires c = search (c.in_ok-part.ensures, name_steps)

pub returns-then-is_text : goal.returns-then-is_text
returns-then-is_text c = search (c.in_ok-part.ensures, name_steps)

pub returns-in_err-part : goal.returns-in_err-part
returns-in_err-part c = search (c.in_err-part.ensures, name_steps)

pub returns : goal.returns
returns c = search (c.in_ok-part.ensures, name_steps)
