use Rattle.stream.proofs.FeedLaws.{moving}
use Rattle.stream.proofs.feeding.skip_on.Goals as goal

pub skip-stream-requires : goal.skip-stream-requires
skip-stream-requires c = search moving

pub returns : goal.returns
returns c = search moving
