use Rattle.older.proofs.Steps.{entry_steps}
use Rattle.older.proofs.judging.entry.Goals as goal

pub zero_byte-requires : goal.zero_byte-requires
zero_byte-requires c = search entry_steps

pub returns : goal.returns
returns c = search (c.in_ok-d.ensures, c.in_ok-e.ensures, entry_steps)

pub returns-in_err-d : goal.returns-in_err-d
returns-in_err-d c = search (c.in_err-d.ensures, entry_steps)

pub returns-in_err-e : goal.returns-in_err-e
returns-in_err-e c = search (c.in_ok-d.ensures, c.in_err-e.ensures, entry_steps)
