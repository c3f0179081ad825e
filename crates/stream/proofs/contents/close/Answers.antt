use Rattle.stream.proofs.ContentLaws.{closings}
use Rattle.stream.proofs.contents.close.Goals as goal

pub returns-then-s-ne0 : goal.returns-then-s-ne0
returns-then-s-ne0 c = search closings

pub returns-then-s-lt-PAYING : goal.returns-then-s-lt-PAYING
returns-then-s-lt-PAYING c = search closings

pub returns : goal.returns
returns c = search closings
