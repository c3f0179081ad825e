use Rattle.lists.proofs.Puts.{row_puts}
use Rattle.lists.proofs.put_row.Goals as goal

pub returns : goal.returns
returns c = search row_puts
