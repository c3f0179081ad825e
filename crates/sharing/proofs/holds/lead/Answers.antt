use Rattle.sharing.proofs.HoldLaws.{leads}
use Rattle.sharing.proofs.holds.lead.Goals as goal

pub returns : goal.returns
returns c = search leads
