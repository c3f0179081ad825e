use Rattle.writing.proofs.NumberLaws.{lengths}
use Rattle.writing.proofs.number_length.Goals as goal

pub returns-then-n : goal.returns-then-n
returns-then-n c = search lengths

pub returns-then-n-2 : goal.returns-then-n-2
returns-then-n-2 c = search lengths

pub returns-then-n-3 : goal.returns-then-n-3
returns-then-n-3 c = search lengths

pub returns-then-n-4 : goal.returns-then-n-4
returns-then-n-4 c = search lengths

pub returns : goal.returns
returns c = search lengths
