use Rattle.format.proofs.Nested.{ok_some, ok_none}
use Rattle.sharing.proofs.AskLaws.{replies}
use Rattle.sharing.proofs.asking.reply.Goals as goal

pub returns-in_default : goal.returns-in_default
returns-in_default c = search replies

pub returns-in_default-found : goal.returns-in_default-found
returns-in_default-found c = let e = ok_none c.in-Ok.is c.in_default-found.is in search replies

pub put_name-requires : goal.put_name-requires
put_name-requires c = let e = ok_some c.in-Ok.is c.in-Some.is in search replies

pub returns : goal.returns
returns c = let e = ok_some c.in-Ok.is c.in-Some.is in search replies
