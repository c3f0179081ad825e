use Rattle.reading.proofs.TextSteps.{twos}
use Rattle.reading.proofs.text.two.Goals as goal

pub returns-then-to-i-lt2 : goal.returns-then-to-i-lt2
returns-then-to-i-lt2 c = search twos

pub returns-then-is_two : goal.returns-then-is_two
returns-then-is_two c = search twos

pub returns : goal.returns
returns c = search twos
