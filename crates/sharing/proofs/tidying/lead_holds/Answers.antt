use Rattle.sharing.proofs.TidyLaws.{followings}
use Rattle.sharing.proofs.tidying.lead_holds.Goals as goal

pub loop-hold-preserved : goal.loop-hold-preserved
loop-hold-preserved c = search followings
