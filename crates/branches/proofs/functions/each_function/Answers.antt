use Rattle.format.proofs.Nested.{handed_on}
use Rattle.branches.proofs.FunctionSteps.{going}
use Rattle.branches.proofs.functions.each_function.Goals as goal

pub number_here-count-requires : goal.number_here-count-requires
number_here-count-requires c = search going

pub loop-more-init : goal.loop-more-init
loop-more-init c = search going

pub one_function-requires-clause-opened : goal.one_function-requires-clause-opened
one_function-requires-clause-opened c = search going

pub returns-in_err-after : goal.returns-in_err-after
returns-in_err-after c = rw (handed_on _ c.from_residual.ensures) (search (c.in_err-after.ensures, going))

pub loop-more-preserved : goal.loop-more-preserved
loop-more-preserved c = search going

pub returns : goal.returns
returns c = search going
