use Rattle.stream.proofs.FeedLaws.{moving}
use Rattle.stream.proofs.feeding.pass_on.Goals as goal

pub pass-stream-requires : goal.pass-stream-requires
pass-stream-requires c = search moving

pub returns : goal.returns
returns c = search moving
