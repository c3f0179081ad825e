use Rattle.copying.proofs.Putting.{part_putting}
use Rattle.copying.proofs.put_part.Goals as goal

pub put_number-text-requires : goal.put_number-text-requires
put_number-text-requires c = search part_putting

pub put_bytes-requires : goal.put_bytes-requires
put_bytes-requires c = search part_putting

pub returns : goal.returns
returns c = search part_putting
