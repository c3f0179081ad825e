use Rattle.sharing.proofs.HoldLaws.{lowest_holds}
use Rattle.sharing.proofs.holds.lowest.Goals as goal

pub returns-then-holds-first-eq0 : goal.returns-then-holds-first-eq0
returns-then-holds-first-eq0 c = search lowest_holds

pub loop-h-preserved : goal.loop-h-preserved
loop-h-preserved c = search lowest_holds

pub returns : goal.returns
returns c = search lowest_holds
