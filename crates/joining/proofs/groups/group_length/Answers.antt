use Rattle.copying.proofs.Measuring.{one_group}
use Rattle.joining.proofs.groups.group_length.Goals as goal

pub returns-then-count-eq0 : goal.returns-then-count-eq0
returns-then-count-eq0 c = search one_group

pub returns : goal.returns
returns c = search one_group
