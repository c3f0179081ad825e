use Rattle.reading.proofs.NumberLoop.{first_byte}
use Rattle.reading.proofs.Cursor.number.Goals as goal

pub returns : goal.returns
returns c = search first_byte
