use Rattle.joining.proofs.SubsectionLaws.{lengths_left}
use Rattle.joining.proofs.subsections.left_length.Goals as goal

pub returns-then-sizes-ge-TOO_LARGE : goal.returns-then-sizes-ge-TOO_LARGE
returns-then-sizes-ge-TOO_LARGE c = search lengths_left

pub overflow_add-result : goal.overflow_add-result
overflow_add-result c = search lengths_left

pub returns-in-None : goal.returns-in-None
returns-in-None c = search lengths_left

pub returns-else-sizes-ge-TOO_LARGE : goal.returns-else-sizes-ge-TOO_LARGE
returns-else-sizes-ge-TOO_LARGE c = search lengths_left
