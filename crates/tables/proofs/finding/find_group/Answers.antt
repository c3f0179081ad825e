use Rattle.tables.proofs.FindLaws.{group_seeking}
use Rattle.tables.proofs.finding.find_group.Goals as goal

pub rows_here-left-requires : goal.rows_here-left-requires
rows_here-left-requires c = search group_seeking

pub loop-k-init : goal.loop-k-init
loop-k-init c = search group_seeking

pub loop-k-preserved : goal.loop-k-preserved
loop-k-preserved c = search (c.in_ok-k.was, group_seeking)

pub returns-then-key-k : goal.returns-then-key-k
returns-then-key-k c = search (c.in_ok-k.was, group_seeking)

pub returns-then-key-k-2 : goal.returns-then-key-k-2
returns-then-key-k-2 c = search (c.in_ok-k.was, group_seeking)

pub returns-in_err-k : goal.returns-in_err-k
returns-in_err-k c = rw c.from_residual.ensures (search (c.in_err-k.was, group_seeking))
