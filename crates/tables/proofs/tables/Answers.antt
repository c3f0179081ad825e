use Rattle.tables.proofs.Turns.{table_steps}
use Rattle.tables.proofs.tables.Goals as goal

pub tables_rows-requires : goal.tables_rows-requires
tables_rows-requires c = search table_steps

pub returns : goal.returns
returns c = search (c.in_ok-n.was, table_steps)

pub returns-in_err-n : goal.returns-in_err-n
returns-in_err-n c = search (c.in_err-n.was, table_steps)
