use Rattle.joining.proofs.PutLaws.{kept_put}
use Rattle.joining.proofs.contents.put_kept.Goals as goal

pub put_bytes-requires : goal.put_bytes-requires
put_bytes-requires c = search kept_put

pub put_bytes-requires-in-Some-second : goal.put_bytes-requires-in-Some-second
put_bytes-requires-in-Some-second c = search kept_put

pub returns-in-Some : goal.returns-in-Some
returns-in-Some c = search kept_put

pub returns-in-Some-second : goal.returns-in-Some-second
returns-in-Some-second c = search kept_put
