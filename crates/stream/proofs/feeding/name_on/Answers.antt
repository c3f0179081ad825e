use Rattle.stream.proofs.FeedLaws.{moving}
use Rattle.stream.proofs.feeding.name_on.Goals as goal

pub spell-stream-requires : goal.spell-stream-requires
spell-stream-requires c = search moving

pub returns : goal.returns
returns c = search moving
