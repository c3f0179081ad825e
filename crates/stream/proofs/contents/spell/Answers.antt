use Rattle.stream.proofs.NameLaws.{spellings}
use Rattle.stream.proofs.contents.spell.Goals as goal

pub returns-then-s-n : goal.returns-then-s-n
returns-then-s-n c = search spellings

pub close-requires-2 : goal.close-requires-2
close-requires-2 c = search spellings

pub returns : goal.returns
returns c = search spellings
