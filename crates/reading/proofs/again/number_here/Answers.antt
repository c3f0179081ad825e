use Rattle.reading.proofs.AgainSteps.{number_steps}
use Rattle.reading.proofs.again.number_here.Goals as goal

pub bounds-s-i : goal.bounds-s-i
bounds-s-i c = search number_steps

pub loop-b-init : goal.loop-b-init
loop-b-init c = search number_steps

pub overflow_mul-value : goal.overflow_mul-value
overflow_mul-value c = search number_steps

pub overflow_add-value : goal.overflow_add-value
overflow_add-value c = search number_steps

pub overflow_mul-weight : goal.overflow_mul-weight
overflow_mul-weight c = search number_steps

pub bounds-s-i-in-loop-b : goal.bounds-s-i-in-loop-b
bounds-s-i-in-loop-b c = search number_steps

pub loop-b-preserved : goal.loop-b-preserved
loop-b-preserved c = search number_steps

pub overflow_mul-value-2 : goal.overflow_mul-value-2
overflow_mul-value-2 c = search number_steps

pub overflow_add-value-2 : goal.overflow_add-value-2
overflow_add-value-2 c = search number_steps

pub returns : goal.returns
returns c = search number_steps
