use Rattle.stream.proofs.FeedLaws.{feeding}
use Rattle.stream.proofs.feeding.feed.Goals as goal

pub returns-then-n-s : goal.returns-then-n-s
returns-then-n-s c = search feeding

pub feed_sections-requires : goal.feed_sections-requires
feed_sections-requires c = search feeding

pub returns-in-Some : goal.returns-in-Some
returns-in-Some c = search feeding
