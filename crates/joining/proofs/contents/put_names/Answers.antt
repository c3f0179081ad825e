use Rattle.joining.proofs.PutLaws.{names_put}
use Rattle.joining.proofs.contents.put_names.Goals as goal

pub put_name-requires : goal.put_name-requires
put_name-requires c = search names_put

pub returns-in-Some : goal.returns-in-Some
returns-in-Some c = search names_put

pub returns-in-Some-second : goal.returns-in-Some-second
returns-in-Some-second c = search names_put
