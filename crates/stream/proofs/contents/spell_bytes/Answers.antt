use Rattle.stream.proofs.NameLaws.{spelling_loop}
use Rattle.stream.proofs.contents.spell_bytes.Goals as goal

pub loop-i-init : goal.loop-i-init
loop-i-init c = search spelling_loop

pub loop-i-preserved : goal.loop-i-preserved
loop-i-preserved c = search spelling_loop

pub returns : goal.returns
returns c = search spelling_loop
