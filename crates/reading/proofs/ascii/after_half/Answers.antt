use Rattle.reading.proofs.AsciiLaws.{runs}
use Rattle.reading.proofs.ascii.after_half.Goals as goal

pub returns-then-are_eight_ascii-clause-passes : goal.returns-then-are_eight_ascii-clause-passes
returns-then-are_eight_ascii-clause-passes c = search runs
