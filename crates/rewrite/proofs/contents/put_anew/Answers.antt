use Rattle.rewrite.proofs.PutLaws.{content_anew}
use Rattle.rewrite.proofs.contents.put_anew.Goals as goal

pub put_whole-requires : goal.put_whole-requires
put_whole-requires c = search content_anew

pub returns-in-Kept : goal.returns-in-Kept
returns-in-Kept c = search content_anew
