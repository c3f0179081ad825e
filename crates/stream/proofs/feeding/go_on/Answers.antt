use Rattle.stream.proofs.FeedLaws.{betweens}
use Rattle.stream.proofs.feeding.go_on.Goals as goal

pub sections_on-moved-requires : goal.sections_on-moved-requires
sections_on-moved-requires c = search betweens

pub returns-then-i-moved : goal.returns-then-i-moved
returns-then-i-moved c = search betweens
