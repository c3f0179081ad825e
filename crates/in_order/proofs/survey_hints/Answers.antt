use Rattle.in_order.proofs.Surveying.{surveying_hints}
use Rattle.in_order.proofs.survey_hints.Goals as goal

pub loop-more-init : goal.loop-more-init
loop-more-init c = search surveying_hints

pub hint_here-hint-requires : goal.hint_here-hint-requires
hint_here-hint-requires c = search surveying_hints

pub overflow_add-length : goal.overflow_add-length
overflow_add-length c = search surveying_hints

pub overflow_add-length-in-loop-more : goal.overflow_add-length-in-loop-more
overflow_add-length-in-loop-more c = search surveying_hints

pub loop-more-preserved : goal.loop-more-preserved
loop-more-preserved c = search surveying_hints

pub returns : goal.returns
returns c = search surveying_hints
