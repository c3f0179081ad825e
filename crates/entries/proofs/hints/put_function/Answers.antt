use Rattle.entries.proofs.HintLaws.{hint_putting}
use Rattle.entries.proofs.hints.put_function.Goals as goal

pub loop-second-init : goal.loop-second-init
loop-second-init c = search hint_putting

pub returns : goal.returns
returns c = search hint_putting

pub byte_of-byte-requires : goal.byte_of-byte-requires
byte_of-byte-requires c = search hint_putting

pub put_hint-requires : goal.put_hint-requires
put_hint-requires c = search hint_putting

pub loop-second-preserved : goal.loop-second-preserved
loop-second-preserved c = search hint_putting
