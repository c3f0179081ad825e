use Rattle.stream.proofs.FeedLaws.{moving}
use Rattle.stream.proofs.feeding.count_on.Goals as goal

pub returns : goal.returns
returns c = search moving
