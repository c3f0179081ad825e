use Rattle.reading.proofs.TextSteps.{turns}
use Rattle.reading.proofs.text.is_text.Goals as goal

pub returns-then-to-near : goal.returns-then-to-near
returns-then-to-near c = search turns

pub returns : goal.returns
returns c = search turns
