use Rattle.joining.proofs.AheadLaws.{next_rows}
use Rattle.joining.proofs.rows.next_row.Goals as goal

pub returns-then-i-j : goal.returns-then-i-j
returns-then-i-j c = search next_rows

pub returns-then-j-i : goal.returns-then-j-i
returns-then-j-i c = search next_rows

pub returns-in-Some-second : goal.returns-in-Some-second
returns-in-Some-second c = search next_rows

pub returns-in-None-second-2 : goal.returns-in-None-second-2
returns-in-None-second-2 c = search next_rows

pub returns-else-j-i : goal.returns-else-j-i
returns-else-j-i c = search next_rows
