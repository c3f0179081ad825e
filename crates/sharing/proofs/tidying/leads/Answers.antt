use Rattle.sharing.proofs.TidyLaws.{leadings}
use Rattle.sharing.proofs.tidying.leads.Goals as goal

pub loop-b-init : goal.loop-b-init
loop-b-init c = search leadings

pub overflow_add-next : goal.overflow_add-next
overflow_add-next c = search leadings

pub loop-b-preserved-then-moves : goal.loop-b-preserved-then-moves
loop-b-preserved-then-moves c = search leadings

pub loop-b-preserved : goal.loop-b-preserved
loop-b-preserved c = search leadings
