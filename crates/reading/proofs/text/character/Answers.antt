use Rattle.reading.proofs.TextSteps.{firsts}
use Rattle.reading.proofs.text.character.Goals as goal

pub returns-then-first-lt128 : goal.returns-then-first-lt128
returns-then-first-lt128 c = search firsts

pub returns-then-first-lt192 : goal.returns-then-first-lt192
returns-then-first-lt192 c = search firsts

pub returns : goal.returns
returns c = search firsts
