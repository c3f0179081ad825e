use Rattle.reading.proofs.TextSteps.{wholes}
use Rattle.reading.proofs.text.whole.Goals as goal

pub returns-then-first-lt192 : goal.returns-then-first-lt192
returns-then-first-lt192 c = search wholes

pub returns-then-is_two : goal.returns-then-is_two
returns-then-is_two c = search wholes

pub returns-then-first-lt224 : goal.returns-then-first-lt224
returns-then-first-lt224 c = search wholes

pub returns-then-is_three : goal.returns-then-is_three
returns-then-is_three c = search wholes

pub returns-then-first-lt240 : goal.returns-then-first-lt240
returns-then-first-lt240 c = search wholes

pub returns-then-is_four : goal.returns-then-is_four
returns-then-is_four c = search wholes

pub returns-else-is_four : goal.returns-else-is_four
returns-else-is_four c = search wholes

pub returns-else-first-lt248 : goal.returns-else-first-lt248
returns-else-first-lt248 c = search wholes
