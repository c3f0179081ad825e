use Rattle.writing.proofs.NumberLaws.{numbers}
use Rattle.writing.proofs.put_number.Goals as goal

pub loop-rest-init : goal.loop-rest-init
loop-rest-init c = search numbers

pub bounds-out-next : goal.bounds-out-next
bounds-out-next c = search numbers

pub loop-rest-preserved : goal.loop-rest-preserved
loop-rest-preserved c = search numbers

pub bounds-out-next-2 : goal.bounds-out-next-2
bounds-out-next-2 c = search numbers

pub returns : goal.returns
returns c = search numbers
