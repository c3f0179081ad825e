use Rattle.stream.proofs.FeedLaws.{passing}
use Rattle.stream.proofs.feeding.pass.Goals as goal

pub close-requires : goal.close-requires
close-requires c = search passing

pub returns : goal.returns
returns c = search passing
