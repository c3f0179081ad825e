use Rattle.names.proofs.ContentLaws.{map_steps}
use Rattle.names.proofs.contents.map.Goals as goal

pub returns : goal.returns
returns c = search (c.in_ok-next.was, map_steps)

pub returns-in_err-next : goal.returns-in_err-next
returns-in_err-next c = search (c.in_err-next.was, map_steps)
