use Rattle.older.proofs.Steps.{entry_steps}
use Rattle.older.proofs.entry_here.Goals as goal

pub zero_byte-requires : goal.zero_byte-requires
zero_byte-requires c = search entry_steps

pub returns : goal.returns
returns c = search (c.in_ok-k.ensures, c.in_ok-e.ensures, entry_steps)

pub returns-in_err-e : goal.returns-in_err-e
returns-in_err-e c = search (c.in_ok-k.ensures, c.in_err-e.ensures, entry_steps)

pub returns-in_err-k : goal.returns-in_err-k
returns-in_err-k c = search (c.in_err-k.ensures, entry_steps)
