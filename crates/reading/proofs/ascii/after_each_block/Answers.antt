use Rattle.reading.proofs.AsciiLaws.{runs}
use Rattle.reading.proofs.ascii.after_each_block.Goals as goal

pub loop-i-preserved : goal.loop-i-preserved
loop-i-preserved c = search runs

pub returns-then-is_block_ascii : goal.returns-then-is_block_ascii
returns-then-is_block_ascii c = search runs
