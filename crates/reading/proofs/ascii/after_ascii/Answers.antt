use Rattle.reading.proofs.AsciiLaws.{runs}
use Rattle.reading.proofs.ascii.after_ascii.Goals as goal

pub returns-then-are_few_ascii : goal.returns-then-are_few_ascii
returns-then-are_few_ascii c = search runs
