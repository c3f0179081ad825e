use Rattle.joining.proofs.ContentLaws.{names_measured}
use Rattle.joining.proofs.contents.names_left.Goals as goal

pub returns-in-Some : goal.returns-in-Some
returns-in-Some c = search names_measured

pub returns-in-Some-second : goal.returns-in-Some-second
returns-in-Some-second c = search names_measured

pub returns-in-None-second : goal.returns-in-None-second
returns-in-None-second c = search names_measured
