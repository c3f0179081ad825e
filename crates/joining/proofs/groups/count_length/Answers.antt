use Rattle.joining.proofs.GroupLaws.{counts}
use Rattle.joining.proofs.groups.count_length.Goals as goal

pub returns-then-count-ge-TOO_MANY : goal.returns-then-count-ge-TOO_MANY
returns-then-count-ge-TOO_MANY c = search counts
