use Rattle.entries.proofs.PutLaws.{storing}
use Rattle.entries.proofs.rows.put_row.Goals as goal

pub bounds-seconds-at : goal.bounds-seconds-at
bounds-seconds-at c = search storing

pub bounds-offsets-at : goal.bounds-offsets-at
bounds-offsets-at c = search storing

pub bounds-lengths-at : goal.bounds-lengths-at
bounds-lengths-at c = search storing

pub returns : goal.returns
returns c = search storing
