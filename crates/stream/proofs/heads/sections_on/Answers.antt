use Rattle.stream.proofs.HeadLaws.{going}
use Rattle.stream.proofs.heads.sections_on.Goals as goal

pub loop-known-init : goal.loop-known-init
loop-known-init c = search going

pub loop-known-preserved : goal.loop-known-preserved
loop-known-preserved c = search going

pub returns-in-Cut : goal.returns-in-Cut
returns-in-Cut c = search going

pub returns-in-Unread : goal.returns-in-Unread
returns-in-Unread c = search going

pub returns : goal.returns
returns c = search going
