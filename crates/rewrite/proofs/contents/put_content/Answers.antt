use Rattle.rewrite.proofs.PutLaws.{content_put}
use Rattle.rewrite.proofs.contents.put_content.Goals as goal

pub returns-then-sizes-part : goal.returns-then-sizes-part
returns-then-sizes-part c = search content_put
