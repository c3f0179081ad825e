use Rattle.reading.proofs.AsciiLaws.{runs}
use Rattle.reading.proofs.text.after_run.Goals as goal

pub returns-then-are_four_ascii : goal.returns-then-are_four_ascii
returns-then-are_four_ascii c = search runs
