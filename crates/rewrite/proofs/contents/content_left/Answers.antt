use Rattle.rewrite.proofs.ContentLaws.{content_measured}
use Rattle.rewrite.proofs.contents.content_left.Goals as goal

pub returns-in-Kept : goal.returns-in-Kept
returns-in-Kept c = search content_measured
