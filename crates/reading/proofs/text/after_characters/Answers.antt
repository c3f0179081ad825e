use Rattle.reading.proofs.TextSteps.{turns}
use Rattle.reading.proofs.text.after_characters.Goals as goal

pub loop-i-preserved-then-s-i-lt-ASCII_END : goal.loop-i-preserved-then-s-i-lt-ASCII_END
loop-i-preserved-then-s-i-lt-ASCII_END c = search turns
