use Rattle.reading.proofs.AsciiLaws.{runs}
use Rattle.reading.proofs.ascii.after_blocks.Goals as goal

pub loop-i-preserved : goal.loop-i-preserved
loop-i-preserved c = search runs
