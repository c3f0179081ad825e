use Rattle.stream.proofs.FeedLaws.{sections_fed}
use Rattle.stream.proofs.feeding.feed_sections.Goals as goal

pub feed_from-requires : goal.feed_from-requires
feed_from-requires c = search sections_fed

pub returns-then-moved-part : goal.returns-then-moved-part
returns-then-moved-part c = search sections_fed
