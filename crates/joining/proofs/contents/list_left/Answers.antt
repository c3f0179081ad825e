use Rattle.joining.proofs.ContentLaws.{lists_left}
use Rattle.joining.proofs.contents.list_left.Goals as goal

pub returns-then-count-eq0 : goal.returns-then-count-eq0
returns-then-count-eq0 c = search lists_left

pub returns : goal.returns
returns c = search lists_left
