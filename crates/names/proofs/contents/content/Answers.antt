use Rattle.names.proofs.ContentLaws.{content_steps}
use Rattle.names.proofs.contents.content.Goals as goal

pub returns-in-OneName : goal.returns-in-OneName
returns-in-OneName c = search content_steps

pub returns-in-Kept : goal.returns-in-Kept
returns-in-Kept c = search content_steps
