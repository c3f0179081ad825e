use Rattle.format.specs.Bytes.{ascii}
use Rattle.format.specs.Walk.{name_section, hint_section}
use Rattle.walk.proofs.RowLaws.{rows_compared}
use Rattle.walk.proofs.rows.called.Goals as goal

pub returns-then-is_called : goal.returns-then-is_called
unfolding ascii name_section hint_section
returns-then-is_called c = search rows_compared

pub returns-then-is_joined : goal.returns-then-is_joined
unfolding ascii name_section hint_section
returns-then-is_joined c = search rows_compared

pub returns-then-is_called-2 : goal.returns-then-is_called-2
unfolding ascii name_section hint_section
returns-then-is_called-2 c = search rows_compared

pub returns : goal.returns
unfolding ascii name_section hint_section
returns c = search rows_compared
