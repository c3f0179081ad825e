use Rattle.markers.proofs.LookLaws.{looks}
use Rattle.markers.proofs.looking.look.Goals as goal

pub returns-then-end-wide : goal.returns-then-end-wide
returns-then-end-wide c = search looks

pub returns-then-key-indices : goal.returns-then-key-indices
returns-then-key-indices c = search looks

pub returns : goal.returns
returns c = search looks
