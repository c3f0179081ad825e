use Rattle.stream.proofs.FeedLaws.{skips}
use Rattle.stream.proofs.feeding.skip.Goals as goal

pub returns-then-n-s : goal.returns-then-n-s
returns-then-n-s c = search skips

pub returns : goal.returns
returns c = search skips
