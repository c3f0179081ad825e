use Rattle.reading.proofs.TextSteps.{threes}
use Rattle.reading.proofs.text.three.Goals as goal

pub returns-then-to-i-lt3 : goal.returns-then-to-i-lt3
returns-then-to-i-lt3 c = search threes

pub returns-then-is_three : goal.returns-then-is_three
returns-then-is_three c = search threes

pub returns : goal.returns
returns c = search threes
