use Rattle.reading.proofs.TextSteps.{fours}
use Rattle.reading.proofs.text.four.Goals as goal

pub returns-then-to-i-lt4 : goal.returns-then-to-i-lt4
returns-then-to-i-lt4 c = search fours

pub returns-then-is_four : goal.returns-then-is_four
returns-then-is_four c = search fours

pub returns : goal.returns
returns c = search fours
