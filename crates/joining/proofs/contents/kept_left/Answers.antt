use Rattle.joining.proofs.ContentLaws.{kept_measured}
use Rattle.joining.proofs.contents.kept_left.Goals as goal

pub returns-in-Some : goal.returns-in-Some
returns-in-Some c = search kept_measured

pub returns-in-Some-second : goal.returns-in-Some-second
returns-in-Some-second c = search kept_measured

pub returns-in-None-second : goal.returns-in-None-second
returns-in-None-second c = search kept_measured
