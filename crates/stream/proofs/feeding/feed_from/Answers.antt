use Rattle.stream.proofs.FeedLaws.{turns}
use Rattle.stream.proofs.feeding.feed_from.Goals as goal

pub loop-i-preserved : goal.loop-i-preserved
loop-i-preserved c = search turns

pub returns : goal.returns
returns c = search turns
